-- The field of each part passes every check, where the part keeps its rules. Assumes nothing.
use Rattle.std.proofs.Common.{◌≡◌, ℕ, suc, ◌-◌, ◌%◌, ◌<◌, ◌≤◌, true, false, ◌&&◌, ◌||◌, ltb, leb, List, [], ◌∷◌, ◌++◌, map, length, take, Ok, Option, sym, refl, ap, ◌∙◌, append_assoc, append-nil, arith}
use Rattle.std.specs.List.{flat_map, list_all}
use Rattle.std.proofs.lemmas.List.{length_push, get_or_push, take_at}
use Rattle.std.proofs.lemmas.Bool.{and_from, and_parts, or_right, le-leb, leb-true, lt-ltb}
use Rattle.message.specs.Bytes.{is_atom}
use Rattle.message.specs.Filling.{of_kind}
use Rattle.message.specs.Trees.{is_form, closed}
use Rattle.message.specs.Variables.{among}
use Rattle.exchange.specs.declared.tag.Tag.{Tag}
use Rattle.exchange.specs.declared.tag.Tag.TheVariants.{AtomTag, OpeningTag, RoleTag, StepTag, SessionTag, ClaimTag, EndTag}
use Rattle.exchange.specs.Exchanges.{Declaration, Step, sends, receives, begins, ends, Binding, Session, Claim, secret, session_secret, matched, matched_once, Exchange}
use Rattle.exchange.specs.Files.{step_value, binding_bytes, claim_value}
use Rattle.exchange.specs.Rules.{ascending, started, within, is_label_byte, uses_declared, form_in, mark_fits, role_variables, role_at, session_at, fillable, few_new, declaration_fits, message_fits, step_fits, role_fits, binding_fits, starts_fit, session_fits, claim_fits}
use Rattle.exchange.specs.Checks.{then, takes, item_of, value_item, opens, does, claims, is_next, pair_fits, bindings_of, adds}
use Rattle.exchange.proofs.Each.{each_at, form_short}
use Rattle.exchange.proofs.Pairs.{pairs_length}
use Rattle.exchange.proofs.Onward.{last_byte, follows, role_follows}

-- the exchange of these parts
abbrev pub made : List Declaration → List (List ℕ) → List (List Step) → List Session → List Claim → Exchange
made atoms opening roles sessions claimed = record { atoms = atoms; opening = opening; roles = roles; sessions = sessions; claims = claimed }

-- a number from low to high
pub within_from : (low high n : ℕ) → low ≤ n → n ≤ high → within low high n ≡ true
within_from low high n h k = and_from _ _ (le-leb low n h) (le-leb n high k)

-- and back
pub within_both : (low high n : ℕ) → within low high n ≡ true → (low ≤ n) × (n ≤ high)
within_both low high n e = let parts = and_parts _ _ e in (leb-true low n parts.0, leb-true n high parts.1)

-- the last role of roles that keep their rules has a step
last_has_steps : (names : List ℕ) (roles : List (List Step)) → 1 ≤ length roles → list_all (role_fits names) roles ≡ true → leb 1 (length (role_at roles (length roles - 1))) ≡ true
last_has_steps names roles some fit =
    let steps = role_at roles (length roles - 1) in
    let fits = each_at (role_fits names) roles (length roles - 1) [] (omega arith) fit in
    let size = (and_parts _ _ fits).0 in
    (and_parts _ _ size).0

-- the value of a step says that step
step_item_lem : (names : List ℕ) (s : Step) → step_fits names s ≡ true → item_of StepTag (step_value s) ≡ Ok (does s)
step_item_lem names s fits =
    let parts = and_parts _ _ fits in
    go s parts.0 (form_short (form_in s) (and_parts _ _ parts.1).0)
  where
    go : (s : Step) → mark_fits s ≡ true → (1 ≤ length (form_in s)) × (length (form_in s) ≤ 24) → item_of StepTag (step_value s) ≡ Ok (does s)
    go (sends f) mark size = simp (within_from 2 26 (suc (length f)) (omega arith) (omega arith))
    go (receives f) mark size = simp (within_from 2 26 (suc (length f)) (omega arith) (omega arith))
    go (begins m f) mark size = simp (within_from 2 26 (suc (suc (length f))) (omega arith) (omega arith), mark)
    go (ends m f) mark size = simp (within_from 2 26 (suc (suc (length f))) (omega arith) (omega arith), mark)

-- where variables ascend, each may follow those before it
next_ascends : (got : List Binding) (b : Binding) (more : List Binding) → ascending (started (got ++ b ∷ more)) ≡ true → is_next got b.variable ≡ true
next_ascends [] b more e = refl
next_ascends (c ∷ []) b more e =
    let larger = (and_parts _ _ e).0 in
    (and_parts _ _ larger).0
next_ascends (c ∷ (d ∷ got)) b more e =
    let rest = d ∷ (got ++ b ∷ more) in
    next_ascends (d ∷ got) b more (and_parts _ _ e).1

-- the pairs of bindings are read as these bindings
bindings_back : (names : List ℕ) (steps : List Step) (got more : List Binding) → ascending (started (got ++ more)) ≡ true → list_all (binding_fits names steps) more ≡ true → bindings_of names steps got (flat_map binding_bytes more) ≡ Ok (got ++ more)
unfolding bindings_of
bindings_back names steps got [] up fit = ap Ok (sym (append-nil got))
bindings_back names steps got (b ∷ more) up fit =
    let both = and_parts (binding_fits names steps b) (list_all (binding_fits names steps) more) fit in
    let own = and_parts (among b.variable (role_variables steps)) (among b.atom names && of_kind b.variable b.atom) both.0 in
    let atom = and_parts (among b.atom names) (of_kind b.variable b.atom) own.1 in
    let next = next_ascends got b more up in
    let pair : pair_fits names steps got b.variable b.atom ≡ Ok b = simp (next, own.0, atom.0, atom.1) in
    let group = append_assoc got (b ∷ []) more in
    ap (λ r. then r (λ c. bindings_of names steps (got ++ c ∷ []) (flat_map binding_bytes more))) pair
    ∙ bindings_back names steps (got ++ b ∷ []) more (ap (λ l. ascending (started l)) group ∙ up) both.1
    ∙ ap Ok group

-- the value of a claim says that claim
claim_item_lem : (names : List ℕ) (roles : List (List Step)) (sessions : List Session) (c : Claim) → claim_fits names roles sessions c ≡ true → item_of ClaimTag (claim_value c) ≡ Ok (claims c)
claim_item_lem names roles sessions (secret m) fits =
    let size = form_short m (and_parts _ _ fits).0 in
    simp (within_from 2 25 (suc (length m)) (omega arith) (omega arith))
claim_item_lem names roles sessions (session_secret s v) fits = refl
claim_item_lem names roles sessions (matched mark) fits = simp fits
claim_item_lem names roles sessions (matched_once mark) fits = simp fits

module _ (last : Option Tag) where
  -- a declaration of an atom that is new
  pub takes_declaration : (pre : List Declaration) (d : Declaration) → last_byte last ≤ 1 → declaration_fits d ≡ true → among d.atom (map (λ e. e.atom) pre) ≡ false
      → takes last (made pre [] [] [] []) AtomTag (d.atom ∷ d.label) ≡ Ok (made (pre ++ d ∷ []) [] [] [] [])
  takes_declaration pre d h fits new =
      let parts = and_parts (is_atom d.atom) (list_all is_label_byte d.label && within 1 12 (length d.label)) fits in
      let text = and_parts (list_all is_label_byte d.label) (within 1 12 (length d.label)) parts.1 in
      let size = within_both 1 12 (length d.label) text.1 in
      let may = follows last AtomTag (omega arith) (omega arith) in
      let sized = within_from 2 13 (suc (length d.label)) (omega arith) (omega arith) in
      simp (may, sized, new, parts.0, text.0)

  -- an opening message
  pub takes_opening : (atoms : List Declaration) (pre : List (List ℕ)) (m : List ℕ) → last_byte last ≤ 2 → length pre < 32 → message_fits (map (λ d. d.atom) atoms) m ≡ true
      → takes last (made atoms pre [] [] []) OpeningTag m ≡ Ok (made atoms (pre ++ m ∷ []) [] [] [])
  takes_opening atoms pre m h room fits =
      let names = map (λ (d : Declaration). d.atom) atoms in
      let parts = and_parts (is_form m) (closed m && uses_declared names m) fits in
      let more = and_parts (closed m) (uses_declared names m) parts.1 in
      let size = form_short m parts.0 in
      let may = follows last OpeningTag (omega arith) (omega arith) in
      let few = lt-ltb (length pre) 32 room in
      let sized = within_from 1 24 (length m) size.0 size.1 in
      let item : value_item OpeningTag m ≡ Ok (opens m) = item_of_lem m size.0 in
      simp (may, few, sized, item, parts.0, more.0, more.1)
    where
      item_of_lem : (m : List ℕ) → 1 ≤ length m → value_item OpeningTag m ≡ Ok (opens m)
      item_of_lem [] h = absurd (omega arith)
      item_of_lem (b ∷ bs) h = refl

  -- the beginning of a role
  pub takes_role : (atoms : List Declaration) (opening : List (List ℕ)) (pre : List (List Step)) (names : List ℕ) → last_byte last ≤ 4 → length pre < 4 → list_all (role_fits names) pre ≡ true
      → takes last (made atoms opening pre [] []) RoleTag [] ≡ Ok (made atoms opening (pre ++ [] ∷ []) [] [])
  takes_role atoms opening pre names h room fit =
      let may = role_follows last h in
      let due : (leb (length pre) 0 || leb 1 (length (role_at pre (length pre - 1)))) ≡ true = ready pre fit in
      let few = lt-ltb (length pre) 4 room in
      simp (may, due, few)
    where
      ready : (pre : List (List Step)) → list_all (role_fits names) pre ≡ true → (leb (length pre) 0 || leb 1 (length (role_at pre (length pre - 1)))) ≡ true
      ready [] e = refl
      ready (r ∷ pre) e = or_right (leb (length (r ∷ pre)) 0) (leb 1 (length (role_at (r ∷ pre) (length (r ∷ pre) - 1)))) (last_has_steps names (r ∷ pre) (omega arith) e)

  -- a step of the last role
  pub takes_step : (atoms : List Declaration) (opening : List (List ℕ)) (pre : List (List Step)) (steps : List Step) (s : Step) → last_byte last ≤ 4 → length steps < 12
      → step_fits (map (λ d. d.atom) atoms) s ≡ true → length (role_variables (steps ++ s ∷ [])) ≤ 8
      → takes last (made atoms opening (pre ++ steps ∷ []) [] []) StepTag (step_value s) ≡ Ok (made atoms opening (pre ++ (steps ++ s ∷ []) ∷ []) [] [])
  takes_step atoms opening pre steps s h room fits few =
      let names = map (λ (d : Declaration). d.atom) atoms in
      let roles = pre ++ steps ∷ [] in
      let size = length_push pre steps in
      let place : length pre ≡ length roles - 1 = omega arith in
      let mine : role_at roles (length roles - 1) ≡ steps = get_or_push pre steps [] (length roles - 1) place in
      let before : take (length roles - 1) roles ≡ pre = take_at pre (steps ∷ []) (length roles - 1) place in
      let form = and_parts (is_form (form_in s)) (uses_declared names (form_in s)) (and_parts (mark_fits s) (is_form (form_in s) && uses_declared names (form_in s)) fits).1 in
      let may = follows last StepTag (omega arith) (omega arith) in
      let due = le-leb 1 (length roles) (omega arith) in
      let space = lt-ltb (length steps) 12 room in
      let item = step_item_lem names s fits in
      let short = le-leb (length (role_variables (steps ++ s ∷ []))) 8 few in
      simp (may, due, mine, before, space, item, form.0, form.1, short)

  -- a session
  pub takes_session : (atoms : List Declaration) (opening : List (List ℕ)) (roles : List (List Step)) (pre : List Session) (s : Session) → last_byte last ≤ 5 → length pre < 8
      → 1 ≤ length roles → list_all (role_fits (map (λ d. d.atom) atoms)) roles ≡ true → session_fits (map (λ d. d.atom) atoms) roles s ≡ true
      → takes last (made atoms opening roles pre []) SessionTag (s.role ∷ flat_map binding_bytes s.starts) ≡ Ok (made atoms opening roles (pre ++ s ∷ []) [])
  takes_session atoms opening roles pre s h room some fit fits =
      let names = map (λ (d : Declaration). d.atom) atoms in
      let steps = role_at roles s.role in
      let starts = s.starts in
      let parts = and_parts (ltb s.role (length roles)) (starts_fit names steps starts) fits in
      let count = and_parts (leb (length starts) 8) (ascending (started starts) && (list_all (binding_fits names steps) starts && (fillable steps starts && few_new steps starts))) parts.1 in
      let order = and_parts (ascending (started starts)) (list_all (binding_fits names steps) starts && (fillable steps starts && few_new steps starts)) count.1 in
      let pairs = and_parts (list_all (binding_fits names steps) starts) (fillable steps starts && few_new steps starts) order.1 in
      let follow = and_parts (fillable steps starts) (few_new steps starts) pairs.1 in
      let most = leb-true (length starts) 8 count.0 in
      let may = follows last SessionTag (omega arith) (omega arith) in
      let one = le-leb 1 (length roles) some in
      let due = last_has_steps names roles some fit in
      let space = lt-ltb (length pre) 8 room in
      let size = pairs_length starts in
      let sized = within_from 1 17 (suc (length (flat_map binding_bytes starts))) (omega arith) (omega arith) in
      let odd : suc (length (flat_map binding_bytes starts)) % 2 ≡ 1 = omega arith in
      let back = bindings_back names steps [] starts order.0 pairs.0 in
      simp (may, one, due, space, sized, odd, parts.0, back, follow.0, follow.1)

  -- a claim
  pub takes_claim : (atoms : List Declaration) (opening : List (List ℕ)) (roles : List (List Step)) (sessions : List Session) (pre : List Claim) (c : Claim) → last_byte last ≤ 6 → length pre < 8
      → 1 ≤ length sessions → claim_fits (map (λ d. d.atom) atoms) roles sessions c ≡ true
      → takes last (made atoms opening roles sessions pre) ClaimTag (claim_value c) ≡ Ok (made atoms opening roles sessions (pre ++ c ∷ []))
  takes_claim atoms opening roles sessions pre c h room some fits =
      let names = map (λ (d : Declaration). d.atom) atoms in
      let may = follows last ClaimTag (omega arith) (omega arith) in
      let due = le-leb 1 (length sessions) some in
      let space = lt-ltb (length pre) 8 room in
      let item = claim_item_lem names roles sessions c fits in
      let added = go c fits in
      simp (may, due, space, item, added)
    where
      go : (c : Claim) → claim_fits (map (λ d. d.atom) atoms) roles sessions c ≡ true → adds (made atoms opening roles sessions pre) (claims c) ≡ Ok (made atoms opening roles sessions (pre ++ c ∷ []))
      go (secret m) fits =
          let names = map (λ (d : Declaration). d.atom) atoms in
          let parts = and_parts (is_form m) (closed m && uses_declared names m) fits in
          let more = and_parts (closed m) (uses_declared names m) parts.1 in
          simp (parts.0, more.0, more.1)
      go (session_secret s v) fits =
          let parts = and_parts (ltb s (length sessions)) (among v (role_variables (role_at roles (session_at sessions s).role))) fits in
          simp (parts.0, parts.1)
      go (matched mark) fits = refl
      go (matched_once mark) fits = refl

  -- the end
  pub takes_end : (x : Exchange) → last_byte last ≤ 6 → 1 ≤ length x.claims → takes last x EndTag [] ≡ Ok x
  takes_end x h some = simp (follows last EndTag (omega arith) (omega arith), le-leb 1 (length x.claims) some)
