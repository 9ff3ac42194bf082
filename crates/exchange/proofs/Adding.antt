-- One more part, in the exchange that the code stands for.
use Rattle.std.proofs.Common.{◌≡◌, ℕ, ◌<◌, true, false, leb, List, [], ◌∷◌, ◌++◌, map, length, Ok, Err, Result, sym, refl, ap, ◌∙◌, arith}
use Rattle.std.specs.List.{list_all}
use Rattle.std.proofs.lemmas.List.{map_push, length-map, length_push}
use Rattle.message.specs.declared.stop.Stop.{Stop}
use Rattle.message.specs.declared.stop.Stop.TheVariants.{NotOneForm, VariableInMessage, UndeclaredAtom, LimitPassed}
use Rattle.message.specs.Bytes.{is_atom}
use Rattle.message.specs.Trees.{is_form, closed}
use Rattle.message.specs.Variables.{among}
use Rattle.exchange.specs.declared.declaration.Declaration as code
use Rattle.exchange.specs.declared.step.Step as code-step
use Rattle.exchange.specs.declared.step.Step.TheVariants.{Send, Receive, Begin, End}
use Rattle.exchange.specs.Atoms.{declaration_of, atoms_in}
use Rattle.exchange.specs.Checks.{unless, then, form_of, message_of, add_step, last_role, with_opening, with_step}
use Rattle.exchange.specs.Exchanges.{Step, Exchange}
use Rattle.exchange.specs.Reading.{added}
use Rattle.exchange.specs.Parts.{step_form, step_by}
use Rattle.exchange.specs.Rules.{form_in, once, uses_declared, atoms_of, role_variables}
use Rattle.exchange.proofs.Apart.{atoms_below}
use Rattle.exchange.proofs.Each.{each_push, once_push}
use Rattle.exchange.proofs.Refusing.{unless_ok, ok_same}

-- an element put at the end, seen as what it stands for
pub push_seen : {A B : Type 0} (f : A → B) (items more : List A) (x : A) → more ≡ items ++ x ∷ [] → map f more ≡ map f items ++ f x ∷ []
push_seen f items more x e = ap (map f) e ∙ map_push f items x

abbrev pub with_messages : Exchange → List (List ℕ) → Exchange
with_messages x l = record { atoms = x.atoms; opening = l; roles = x.roles; sessions = x.sessions; claims = x.claims }

-- what was let through is what was given
pub message_same : (atoms bs got : List ℕ) → message_of atoms bs ≡ Ok got → got ≡ bs
message_same atoms bs got e =
    let p = unless_ok (is_form bs) NotOneForm _ got e in
    let q = unless_ok (closed bs) VariableInMessage _ got p.1 in
    let r = unless_ok (uses_declared atoms bs) UndeclaredAtom (Ok bs) got q.1 in
    sym (ok_same bs got r.1)

-- the form of a step of the code
pub form_seen : {F : Type 0} (bytes : F → List ℕ) (s : code-step.Step F) → bytes (step_form s) ≡ form_in (step_by bytes s)
form_seen bytes (Send f) = refl
form_seen bytes (Receive f) = refl
form_seen bytes (Begin mark f) = refl
form_seen bytes (End mark f) = refl

-- an opening message was read and put at the end
pub opening_added : (x : Exchange) (bs got : List ℕ) (l : List (List ℕ)) → Ok got ≡ message_of (atoms_of x) bs → l ≡ x.opening ++ got ∷ [] → Ok (with_messages x l) ≡ then (message_of (atoms_of x) bs) (λ _. Ok (with_opening x bs))
opening_added x bs got l e is =
    ap (λ k. Ok (with_messages x k)) (is ∙ ap (λ m. x.opening ++ m ∷ []) (message_same (atoms_of x) bs got (sym e)))
    ∙ ap (λ r. then r (λ _. Ok (with_opening x bs))) e

-- the atoms with one more
pub atoms_more : (items more : List code.Declaration) (d : code.Declaration) → more ≡ items ++ d ∷ [] → atoms_in more ≡ atoms_in items ++ d.atom ∷ []
atoms_more items more d e = ap (map (λ y. y.atom)) (push_seen declaration_of items more d e) ∙ map_push (λ y. y.atom) (map declaration_of items) (declaration_of d)

pub atoms_count : (items : List code.Declaration) → length (atoms_in items) ≡ length items
atoms_count items = length-map (map declaration_of items) (λ y. y.atom) ∙ length-map items declaration_of

-- there is room for one more atom that is not declared yet
pub atom_room : (items : List code.Declaration) (a : ℕ) → list_all is_atom (atoms_in items) ≡ true → once (atoms_in items) ≡ true → true ≡ is_atom a → false ≡ among a (atoms_in items) → length items < 112
atom_room items a are apart one new =
    let names = atoms_in items in
    omega (arith, atoms_below (names ++ a ∷ []) (each_push is_atom names a are (sym one)) (once_push names a apart (sym new)), length_push names a, atoms_count items)

-- the form of a step was refused
pub step_unread : (x : Exchange) (s : Step) (bs : List ℕ) (stop : Stop) → bs ≡ form_in s → Err stop ≡ form_of (atoms_of x) bs → Err stop ≡ add_step x s
step_unread x s bs stop is e = ap (λ r. then r (λ _. unless (leb (length (role_variables (last_role x ++ s ∷ []))) 8) LimitPassed (Ok (with_step x s)))) (e ∙ ap (form_of (atoms_of x)) is)

-- a refusal that was handed on
pub added_err : {A : Type 0} (r : Result A Stop) (stop : Stop) (y : Exchange) → r ≡ Err stop → added r y ≡ Err stop
added_err r stop y e = ap (λ q. added q y) e
