-- The file of an exchange that keeps every rule loads as that exchange. Assumes nothing.
use Rattle.std.proofs.Common.{◌≡◌, ℕ, suc, ◌<◌, ◌≤◌, Bool, true, false, List, [], ◌∷◌, ◌++◌, map, length, Some, None, sym, refl, ap, ◌∙◌, append_assoc, arith}
use Rattle.std.proofs.lemmas.Grind.{flat_map-append}
use Rattle.std.specs.List.{flat_map, list_all}
use Rattle.std.proofs.lemmas.List.{length-append, map-append}
use Rattle.std.proofs.lemmas.Bool.{and_parts, leb-true, le-leb}
use Rattle.message.specs.declared.stop.Stop.TheVariants.{FileTooLong}
use Rattle.message.specs.Variables.{firsts}
use Rattle.exchange.specs.declared.tag.Tag.TheVariants.{AtomTag, OpeningTag, RoleTag, StepTag, SessionTag, ClaimTag, EndTag}
use Rattle.exchange.specs.Exchanges.{Declaration, Step, Session, Claim, Exchange}
use Rattle.exchange.specs.Files.{field, declaration_field, opening_field, step_value, step_field, role_fields, binding_bytes, session_field, claim_value, claim_field, file_bytes}
use Rattle.exchange.specs.Rules.{once, atoms_of, form_in, role_variables, declaration_fits, message_fits, step_fits, role_fits, session_fits, claim_fits, Fit}
use Rattle.exchange.specs.Checks.{Outcome, refused, reading, blank}
use Rattle.exchange.specs.Lossless.{Restores}
use Rattle.exchange.proofs.Each.{each_parts, each_between, once_new, firsts_grow}
use Rattle.exchange.proofs.Onward.{After, ends_field, ends_all, after_each}
use Rattle.exchange.proofs.Passing.{made, within_both, takes_declaration, takes_opening, takes_role, takes_step, takes_session, takes_claim, takes_end}
use Rattle.exchange.proofs.Sizes.{file_short}

-- an element of a list stands behind fewer than all
fewer : {A : Type 0} (pre : List A) (a : A) (post all : List A) → pre ++ a ∷ post ≡ all → length pre < length all
fewer pre a post all e = omega (arith, length-append pre (a ∷ post), ap length e)

-- an element of a list whose elements all pass
passes : {A : Type 0} (test : A → Bool) (pre : List A) (a : A) (post all : List A) → pre ++ a ∷ post ≡ all → list_all test all ≡ true → test a ≡ true
passes test pre a post all e fit = each_between test pre a post (ap (list_all test) e ∙ fit)

-- a role so far has no more variables than the role
fewer_variables : (pre : List Step) (s : Step) (post all : List Step) → pre ++ s ∷ post ≡ all → length (role_variables (pre ++ s ∷ [])) ≤ length (role_variables all)
fewer_variables pre s post all e =
    let whole : flat_map form_in (pre ++ s ∷ []) ++ flat_map form_in post ≡ flat_map form_in all = sym (flat_map-append form_in (pre ++ s ∷ []) post) ∙ ap (flat_map form_in) (append_assoc pre (s ∷ []) post ∙ e) in
    omega (arith, firsts_grow (flat_map form_in (pre ++ s ∷ [])) (flat_map form_in post), ap (λ bs. length (firsts bs)) whole)

-- the fields from a part on, up to the end

abbrev from_claims : Exchange → List ℕ
from_claims x = flat_map claim_field x.claims ++ field 0x7F []

abbrev from_sessions : Exchange → List ℕ
from_sessions x = flat_map session_field x.sessions ++ from_claims x

abbrev from_roles : Exchange → List ℕ
from_roles x = flat_map role_fields x.roles ++ from_sessions x

abbrev from_opening : Exchange → List ℕ
from_opening x = flat_map opening_field x.opening ++ from_roles x

abbrev from_atoms : Exchange → List ℕ
from_atoms x = flat_map declaration_field x.atoms ++ from_opening x

module _ (x : Exchange) (fit : Fit x) where
  -- reading on from the end field
  end : After 6 (field 0x7F []) x x
  end last h = ends_field last x x x EndTag [] [] (takes_end last x h fit.some_claim) (ends_all x)

  -- from the claims
  claims_on : After 6 (from_claims x) (made x.atoms x.opening x.roles x.sessions []) x
  claims_on = after_each claim_field 6 state x.claims x one [] x.claims refl (field 0x7F []) end
    where
      state : List Claim → Exchange
      state = made x.atoms x.opening x.roles x.sessions

      one : (pre : List Claim) (c : Claim) (post : List Claim) → pre ++ c ∷ post ≡ x.claims → (rest : List ℕ) → After 6 rest (state (pre ++ c ∷ [])) x → After 6 (claim_field c ++ rest) (state pre) x
      one pre c post e rest next last h =
          ends_field last (state pre) (state (pre ++ c ∷ [])) x ClaimTag (claim_value c) rest
          (takes_claim last x.atoms x.opening x.roles x.sessions pre c h (omega (arith, fewer pre c post x.claims e, fit.few_claims)) fit.some_session (passes (claim_fits (atoms_of x) x.roles x.sessions) pre c post x.claims e fit.claims))
          (next (Some ClaimTag) (omega arith))

  -- from the sessions
  sessions_on : After 5 (from_sessions x) (made x.atoms x.opening x.roles [] []) x
  sessions_on = after_each session_field 5 state x.sessions x one [] x.sessions refl (from_claims x) (λ last h. claims_on last (omega arith))
    where
      state : List Session → Exchange
      state sessions = made x.atoms x.opening x.roles sessions []

      one : (pre : List Session) (s : Session) (post : List Session) → pre ++ s ∷ post ≡ x.sessions → (rest : List ℕ) → After 5 rest (state (pre ++ s ∷ [])) x → After 5 (session_field s ++ rest) (state pre) x
      one pre s post e rest next last h =
          ends_field last (state pre) (state (pre ++ s ∷ [])) x SessionTag (s.role ∷ flat_map binding_bytes s.starts) rest
          (takes_session last x.atoms x.opening x.roles pre s h (omega (arith, fewer pre s post x.sessions e, fit.few_sessions)) fit.some_role fit.roles (passes (session_fits (atoms_of x) x.roles) pre s post x.sessions e fit.sessions))
          (next (Some SessionTag) (omega arith))

  -- from the roles
  roles_on : After 4 (from_roles x) (made x.atoms x.opening [] [] []) x
  roles_on = after_each role_fields 4 state x.roles x one [] x.roles refl (from_sessions x) (λ last h. sessions_on last (omega arith))
    where
      state : List (List Step) → Exchange
      state roles = made x.atoms x.opening roles [] []

      one : (pre : List (List Step)) (steps : List Step) (post : List (List Step)) → pre ++ steps ∷ post ≡ x.roles → (rest : List ℕ) → After 4 rest (state (pre ++ steps ∷ [])) x → After 4 (role_fields steps ++ rest) (state pre) x
      one pre steps post e rest next last h =
          let fits = passes (role_fits (atoms_of x)) pre steps post x.roles e fit.roles in
          ends_field last (state pre) (state (pre ++ [] ∷ [])) x RoleTag [] (flat_map step_field steps ++ rest)
          (takes_role last x.atoms x.opening pre (atoms_of x) h (omega (arith, fewer pre steps post x.roles e, fit.few_roles)) (each_parts (role_fits (atoms_of x)) pre (steps ∷ post) (ap (list_all (role_fits (atoms_of x))) e ∙ fit.roles)).0)
          (after_each step_field 4 (λ done. state (pre ++ done ∷ [])) steps x (step fits) [] steps refl rest next (Some RoleTag) (omega arith))
        where
          step : role_fits (atoms_of x) steps ≡ true → (done : List Step) (s : Step) (more : List Step) → done ++ s ∷ more ≡ steps → (rest : List ℕ) → After 4 rest (state (pre ++ (done ++ s ∷ []) ∷ [])) x → After 4 (step_field s ++ rest) (state (pre ++ done ∷ [])) x
          step fits done s more e rest next last h =
              let parts = and_parts _ _ fits in
              let own = and_parts _ _ parts.1 in
              ends_field last (state (pre ++ done ∷ [])) (state (pre ++ (done ++ s ∷ []) ∷ [])) x StepTag (step_value s) rest
              (takes_step last x.atoms x.opening pre done s h (omega (arith, fewer done s more steps e, within_both 1 12 (length steps) parts.0)) (passes (step_fits (atoms_of x)) done s more steps e own.0) (omega (arith, fewer_variables done s more steps e, leb-true (length (role_variables steps)) 8 own.1)))
              (next (Some StepTag) (omega arith))

  -- from the opening messages
  opening_on : After 2 (from_opening x) (made x.atoms [] [] [] []) x
  opening_on = after_each opening_field 2 state x.opening x one [] x.opening refl (from_roles x) (λ last h. roles_on last (omega arith))
    where
      state : List (List ℕ) → Exchange
      state opening = made x.atoms opening [] [] []

      one : (pre : List (List ℕ)) (m : List ℕ) (post : List (List ℕ)) → pre ++ m ∷ post ≡ x.opening → (rest : List ℕ) → After 2 rest (state (pre ++ m ∷ [])) x → After 2 (opening_field m ++ rest) (state pre) x
      one pre m post e rest next last h =
          ends_field last (state pre) (state (pre ++ m ∷ [])) x OpeningTag m rest
          (takes_opening last x.atoms pre m h (omega (arith, fewer pre m post x.opening e, fit.few_messages)) (passes (message_fits (atoms_of x)) pre m post x.opening e fit.messages))
          (next (Some OpeningTag) (omega arith))

  -- from the declared atoms
  atoms_on : After 1 (from_atoms x) blank x
  atoms_on = after_each declaration_field 1 state x.atoms x one [] x.atoms refl (from_opening x) (λ last h. opening_on last (omega arith))
    where
      state : List Declaration → Exchange
      state atoms = made atoms [] [] [] []

      one : (pre : List Declaration) (d : Declaration) (post : List Declaration) → pre ++ d ∷ post ≡ x.atoms → (rest : List ℕ) → After 1 rest (state (pre ++ d ∷ [])) x → After 1 (declaration_field d ++ rest) (state pre) x
      one pre d post e rest next last h =
          let atom = λ (c : Declaration). c.atom in
          let apart : once (map atom pre ++ d.atom ∷ map atom post) ≡ true = ap once (sym (map-append atom pre (d ∷ post)) ∙ ap (map atom) e) ∙ fit.declared_once in
          ends_field last (state pre) (state (pre ++ d ∷ [])) x AtomTag (d.atom ∷ d.label) rest
          (takes_declaration last pre d h (passes declaration_fits pre d post x.atoms e fit.declarations) (once_new (map atom pre) d.atom (map atom post) apart))
          (next (Some AtomTag) (omega arith))

-- the file of an exchange that keeps every rule loads as that exchange
pub restores : Restores
restores x fit =
    let file = file_bytes x in
    let row : file ≡ from_atoms x = simp append_assoc in
    ap (λ t. elim t as (λ _. Outcome) [ true ↦ reading (suc (length file)) file 0 None blank | false ↦ refused FileTooLong 0 ]) (le-leb (length file) 8192 (file_short x fit))
    ∙ atoms_on x fit None (omega arith) file (suc (length file)) 0 row (omega (arith, ap length row))
