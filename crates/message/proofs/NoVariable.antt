-- Bytes with no variable among them. Assumes nothing.
use Rattle.std.proofs.Common.{◌≡◌, ℕ, Bool, true, false, not, ◌||◌, List, [], ◌∷◌, ◌++◌, sym, refl, ap, ◌∙◌}
use borrow.Author.Tests.{clash}
use Rattle.std.specs.List.{list_any}
use Rattle.message.specs.Bytes.{is_variable}
use Rattle.message.specs.Trees.{closed}

pub closed_on : (b : ℕ) (bs : List ℕ) → is_variable b ≡ false → closed (b ∷ bs) ≡ closed bs
closed_on b bs e = ap (λ v. elim v as (λ _. Bool) [ true ↦ false | false ↦ closed bs ]) e

pub closed_stops : (b : ℕ) (bs : List ℕ) → is_variable b ≡ true → closed (b ∷ bs) ≡ false
closed_stops b bs e = ap (λ v. elim v as (λ _. Bool) [ true ↦ false | false ↦ closed bs ]) e

-- two texts with no variable, one after the other
pub closed_join : (xs ys : List ℕ) → closed xs ≡ true → closed ys ≡ true → closed (xs ++ ys) ≡ true
closed_join [] ys p q = q
closed_join (x ∷ xs) ys p q = go (is_variable x) refl (λ e. closed_join xs ys e q)
  where
    go : (t : Bool) → is_variable x ≡ t → (closed xs ≡ true → closed (xs ++ ys) ≡ true) → closed (x ∷ (xs ++ ys)) ≡ true
    go true e rest = absurd (clash (sym (closed_stops x xs e) ∙ p))
    go false e rest = closed_on x (xs ++ ys) e ∙ rest (sym (closed_on x xs e) ∙ p)

-- the same as a test of each byte
pub closed_is : (bs : List ℕ) → closed bs ≡ not (list_any is_variable bs)
closed_is [] = refl
closed_is (b ∷ bs) = go (is_variable b) refl (closed_is bs)
  where
    go : (t : Bool) → is_variable b ≡ t → closed bs ≡ not (list_any is_variable bs) → closed (b ∷ bs) ≡ not (is_variable b || list_any is_variable bs)
    go true e rest = closed_stops b bs e ∙ sym (ap (λ t. not (t || list_any is_variable bs)) e)
    go false e rest = closed_on b bs e ∙ rest ∙ sym (ap (λ t. not (t || list_any is_variable bs)) e)
