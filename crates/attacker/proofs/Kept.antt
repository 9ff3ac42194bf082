-- What is known once a message has been taken apart and its parts kept. Assumes nothing.
use Rattle.std.proofs.Common.{◌≡◌, ℕ, ◌+◌, Bool, true, false, ◌⊎◌, List, [], ◌∷◌, ◌++◌, Some, Option, sym, ap, ◌∙◌, subst, inl, inr, arith}
use borrow.Author.Tests.{clash}
use Rattle.std.specs.Str.{bytes_eq}
use Rattle.std.proofs.lemmas.Slice.Eq.{bytes_eq-Decides}
use Rattle.std.proofs.lemmas.Bool.Decides.{nat_tests}
use Rattle.std.proofs.lemmas.Bool.{or_cases, or_left, or_right}
use Rattle.message.specs.Trees.{Tree, atom, variable, joined, locked, proper, write, size, reads}
use Rattle.message.proofs.OneReading.{reads_write}
use Rattle.attacker.specs.Derivation.{stands, opens, parts}
use Rattle.attacker.specs.Known.{fitting, composites, ClosedForm}
use Rattle.attacker.specs.Laws.{has}
use Rattle.attacker.proofs.Absorbing.{left_form, right_form, inner_form}
use Rattle.attacker.specs.Standing.{stands_first, stands_later, stands_cases, stands_none, stands_either}

-- the test for a form with no variable
pub form_fits : (t : Tree) → ClosedForm t → fitting t ≡ true
form_fits t form = let sound = form.fits.sound in let fixed = form.fixed in grind (arith, nat_tests)

pub fits_form : (t : Tree) → fitting t ≡ true → ClosedForm t
fits_form t e = record { fits = record { sound = grind (arith, nat_tests); short = grind (arith, nat_tests) }; fixed = grind (arith, nat_tests) }

-- two forms that keep the rules and are written alike are the same
pub same_written : (t u : Tree) → proper t ≡ true → proper u ≡ true → write t ≡ write u → t ≡ u
same_written t u p q e =
    let f : ℕ = size t + size u in
    let r : ◌≡◌ {A = Option Tree} (Some t) (Some u) = sym (reads_write t p f [] (omega arith)) ∙ ap (λ l. reads f (l ++ [])) e ∙ reads_write u q f [] (omega arith) in
    cc

-- membership in two lists together
pub has_before : (xs ys : List (List ℕ)) (m : List ℕ) → has xs m ≡ true → has (xs ++ ys) m ≡ true
has_before [] ys m h = absurd (clash h)
has_before (x ∷ xs) ys m h = grind (arith, nat_tests, has_before xs ys m)

pub has_behind : (xs ys : List (List ℕ)) (m : List ℕ) → has ys m ≡ true → has (xs ++ ys) m ≡ true
has_behind [] ys m h = h
has_behind (x ∷ xs) ys m h = grind (arith, nat_tests, has_behind xs ys m h)

pub has_either : (xs ys : List (List ℕ)) (m : List ℕ) → has (xs ++ ys) m ≡ true → (has xs m ≡ true) ⊎ (has ys m ≡ true)
has_either [] ys m h = inr h
has_either (x ∷ xs) ys m h = grind (arith, nat_tests, has_either xs ys m)

-- every tree of the list is a form with no variable
abbrev pub AllForms : List Tree → Type 0
AllForms ts = (u : Tree) → stands ts u ≡ true → ClosedForm u

forms_one : (t : Tree) (ts : List Tree) → ClosedForm t → AllForms ts → AllForms (t ∷ ts)
forms_one t ts form rest u h = elim (stands_cases t ts u h) [ inl e ↦ subst ClosedForm e form | inr e ↦ rest u e ]

forms_none : AllForms []
forms_none u h = stands_none u h

-- the parts of a form with no variable are such forms
pub parts_forms : (known : Tree → Bool) (t : Tree) → ClosedForm t → AllForms (parts known t)
parts_forms known (atom b) form = forms_one (atom b) [] form forms_none
parts_forms known (variable b) form = forms_one (variable b) [] form forms_none
parts_forms known (joined x y) form =
    forms_one (joined x y) (parts known x ++ parts known y) form
    (λ u h. elim (stands_either (parts known x) (parts known y) u h) [ inl e ↦ parts_forms known x (left_form form) u e | inr e ↦ parts_forms known y (right_form form) u e ])
parts_forms known (locked k x) form = forms_one (locked k x) (elim (opens known k) [ true ↦ parts known x | false ↦ [] ]) form (go (opens known k) (parts_forms known x (inner_form form)))
  where
    go : (c : Bool) → AllForms (parts known x) → AllForms (elim c [ true ↦ parts known x | false ↦ [] ])
    go true forms = forms
    go false forms = forms_none

-- a joined or locked tree
abbrev pub Composite : Tree → Type 0
Composite (atom b) = ⊥
Composite (variable b) = ⊥
Composite (joined x y) = Unit {0}
Composite (locked k x) = Unit {0}

-- the texts kept of a list have those of its joined and locked trees
pub stands_kept : (ts : List Tree) (u : Tree) → Composite u → stands ts u ≡ true → has (composites ts) (write u) ≡ true
stands_kept [] u c h = stands_none u h
stands_kept (atom b ∷ ts) u c h = elim (stands_cases (atom b) ts u h) [ inl e ↦ absurd (subst Composite (sym e) c) | inr e ↦ stands_kept ts u c e ]
stands_kept (variable b ∷ ts) u c h = elim (stands_cases (variable b) ts u h) [ inl e ↦ absurd (subst Composite (sym e) c) | inr e ↦ stands_kept ts u c e ]
stands_kept (joined x y ∷ ts) u c h =
    elim (stands_cases (joined x y) ts u h) [ inl e ↦ or_left _ (has (composites ts) (write u)) ((bytes_eq-Decides (write (joined x y)) (write u)).1 (ap write e)) | inr e ↦ or_right (bytes_eq (write (joined x y)) (write u)) _ (stands_kept ts u c e) ]
stands_kept (locked k x ∷ ts) u c h =
    elim (stands_cases (locked k x) ts u h) [ inl e ↦ or_left _ (has (composites ts) (write u)) ((bytes_eq-Decides (write (locked k x)) (write u)).1 (ap write e)) | inr e ↦ or_right (bytes_eq (write (locked k x)) (write u)) _ (stands_kept ts u c e) ]

-- and of forms with no variable only those
written_first : (t : Tree) (ts : List Tree) (u : Tree) → AllForms (t ∷ ts) → proper u ≡ true → bytes_eq (write t) (write u) ≡ true → stands (t ∷ ts) u ≡ true
written_first t ts u forms p e = subst (λ v. stands (t ∷ ts) v ≡ true) (same_written t u (forms t (stands_first t ts)).fits.sound p ((bytes_eq-Decides (write t) (write u)).0 e)) (stands_first t ts)

rest_forms : (t : Tree) (ts : List Tree) → AllForms (t ∷ ts) → AllForms ts
rest_forms t ts forms v h = forms v (stands_later t ts v h)

pub kept_stands : (ts : List Tree) → AllForms ts → (u : Tree) → proper u ≡ true → has (composites ts) (write u) ≡ true → stands ts u ≡ true
kept_stands [] forms u p h = absurd (clash h)
kept_stands (atom b ∷ ts) forms u p h = stands_later (atom b) ts u (kept_stands ts (rest_forms (atom b) ts forms) u p h)
kept_stands (variable b ∷ ts) forms u p h = stands_later (variable b) ts u (kept_stands ts (rest_forms (variable b) ts forms) u p h)
kept_stands (joined x y ∷ ts) forms u p h =
    elim (or_cases (bytes_eq (write (joined x y)) (write u)) (has (composites ts) (write u)) h) [
      | inl e ↦ written_first (joined x y) ts u forms p e
      | inr e ↦ stands_later (joined x y) ts u (kept_stands ts (rest_forms (joined x y) ts forms) u p e)
    ]
kept_stands (locked k x ∷ ts) forms u p h =
    elim (or_cases (bytes_eq (write (locked k x)) (write u)) (has (composites ts) (write u)) h) [
      | inl e ↦ written_first (locked k x) ts u forms p e
      | inr e ↦ stands_later (locked k x) ts u (kept_stands ts (rest_forms (locked k x) ts forms) u p e)
    ]
