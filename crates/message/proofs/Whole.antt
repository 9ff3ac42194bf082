-- When all the bytes are one form. Assumes nothing.
use Rattle.std.proofs.Common.{◌≡◌, ℕ, ◌<◌, ◌≤◌, Bool, true, false, ◌&&◌, eqb, leb, List, length, is_some, Some, None, Option, sym, refl, ap, ◌∙◌, arith, eq-eqb, eqb-true, le-leb, leb-true}
use Rattle.std.specs.Option.{option_map}
use Rattle.std.proofs.lemmas.Bool.{and_parts, and_from}
use Rattle.message.specs.Trees.{Tree, size, reads, whole, form_of, is_form, and_then}
use Rattle.message.proofs.Reading.{Says, some_under}

whole_if : (c : Bool) (t : Tree) → c ≡ true → ◌≡◌ {A = Option Tree} (elim c [ true ↦ Some t | false ↦ None ]) (Some t)
whole_if true t e = refl
whole_if false t e = let z : ◌≡◌ {A = ℕ} 0 1 = cc in absurd (omega arith)

if_whole : (c : Bool) (t u : Tree) → ◌≡◌ {A = Option Tree} (elim c [ true ↦ Some t | false ↦ None ]) (Some u) → (c ≡ true) × (t ≡ u)
if_whole true t u e = (refl, cc)
if_whole false t u e = let z : ◌≡◌ {A = ℕ} 0 1 = cc in absurd (omega arith)

-- a reading that takes all of at most 24 bytes is the form of these bytes
pub whole_form : (bs : List ℕ) (t : Tree) → reads (length bs) bs ≡ Some t → size t ≡ length bs → length bs ≤ 24 → form_of bs ≡ Some t
whole_form bs t e all short =
    ap (λ o. and_then o (whole bs)) e
    ∙ whole_if (eqb (size t) (length bs) && leb (length bs) 24) t (and_from (eqb (size t) (length bs)) (leb (length bs) 24) (eq-eqb (size t) (length bs) all) (le-leb (length bs) 24 short))

-- and the form of the bytes is such a reading
pub form_whole : (bs : List ℕ) (t : Tree) → form_of bs ≡ Some t → (reads (length bs) bs ≡ Some t) × (size t ≡ length bs) × (length bs ≤ 24)
form_whole bs t e = go (reads (length bs) bs) refl
  where
    go : (o : Option Tree) → reads (length bs) bs ≡ o → (reads (length bs) bs ≡ Some t) × (size t ≡ length bs) × (length bs ≤ 24)
    go None n = let z : None ≡ Some t = ap (λ o. and_then o (whole bs)) (sym n) ∙ e in let y : ◌≡◌ {A = ℕ} 0 1 = cc in absurd (omega arith)
    go (Some u) s =
        let found = if_whole (eqb (size u) (length bs) && leb (length bs) 24) u t (ap (λ o. and_then o (whole bs)) (sym s) ∙ e) in
        let tests = and_parts (eqb (size u) (length bs)) (leb (length bs) 24) found.0 in
        (s ∙ ap Some found.1, ap size (sym found.1) ∙ eqb-true (size u) (length bs) tests.0, leb-true (length bs) 24 tests.1)

-- where the form at the front takes all the bytes, they are one form
pub all_read : (bs : List ℕ) → length bs ≤ 24 → Says bs (Some (length bs)) → is_form bs ≡ true
all_read bs short says =
    let found = some_under size (reads (length bs) bs) (length bs) (says (length bs) (omega arith)) in
    ap is_some (whole_form bs found.0 found.1 found.2 short)

-- bytes of which no form is the whole are no form
pub not_form : (bs : List ℕ) → ((t : Tree) → form_of bs ≡ Some t → ⊥) → is_form bs ≡ false
not_form bs no-tree = go (form_of bs) refl
  where
    go : (o : Option Tree) → form_of bs ≡ o → is_some o ≡ false
    go None e = refl
    go (Some t) e = absurd (no-tree t e)

pub too_long : (bs : List ℕ) → 24 < length bs → is_form bs ≡ false
too_long bs h = not_form bs (λ t e. omega (arith, (form_whole bs t e).2))

-- where nothing is read, or less than all, they are no form
pub not_all_read : (bs : List ℕ) (r : Option ℕ) → Says bs r → (r ≡ Some (length bs) → ⊥) → is_form bs ≡ false
not_all_read bs r says other = not_form bs (λ t e. let all = form_whole bs t e in other (says (length bs) (omega arith) ∙ ap (option_map size) all.0 ∙ ap Some all.1))
