-- The same tree, and what stands in a list of trees.
use Rattle.std.specs.Prelude.{◌≡◌, true, ◌⊎◌, List, [], ◌∷◌, ◌++◌, ◌==◌, refl}
use Rattle.std.proofs.Common.{ap, inl, inr, arith}
use Rattle.std.proofs.lemmas.Bool.Decides.{nat_tests}
use Rattle.std.proofs.lemmas.Bool.{or_cases, or_left, or_right, and_parts, eqb-true, eq-eqb, false≢true}
use Rattle.message.specs.Trees.{Tree, atom, variable, joined, locked}
use Rattle.attacker.specs.Derivation.{same_tree, stands}

-- a tree is the same as itself
pub same_self : (t : Tree) → same_tree t t ≡ true
same_self (atom b) = eq-eqb b b refl
same_self (variable b) = eq-eqb b b refl
same_self (joined x y) = grind (arith, nat_tests, same_self x, same_self y)
same_self (locked k x) = grind (arith, nat_tests, same_self x)

-- the same trees are equal
pub same_equal : (x y : Tree) → same_tree x y ≡ true → x ≡ y
same_equal (atom a) (atom b) h = ap atom (eqb-true a b h)
same_equal (atom a) (variable b) h = absurd (false≢true h)
same_equal (atom a) (joined x y) h = absurd (false≢true h)
same_equal (atom a) (locked k x) h = absurd (false≢true h)
same_equal (variable a) (atom b) h = absurd (false≢true h)
same_equal (variable a) (variable b) h = ap variable (eqb-true a b h)
same_equal (variable a) (joined x y) h = absurd (false≢true h)
same_equal (variable a) (locked k x) h = absurd (false≢true h)
same_equal (joined u v) (atom b) h = absurd (false≢true h)
same_equal (joined u v) (variable b) h = absurd (false≢true h)
same_equal (joined u v) (joined x y) h =
    let p = and_parts (same_tree u x) (same_tree v y) h in
    λ i. joined (same_equal u x p.0 i) (same_equal v y p.1 i)
same_equal (joined u v) (locked k x) h = absurd (false≢true h)
same_equal (locked j u) (atom b) h = absurd (false≢true h)
same_equal (locked j u) (variable b) h = absurd (false≢true h)
same_equal (locked j u) (joined x y) h = absurd (false≢true h)
same_equal (locked j u) (locked k x) h =
    let p = and_parts (j == k) (same_tree u x) h in
    λ i. locked (eqb-true j k p.0 i) (same_equal u x p.1 i)

-- the first of a list stands in it
pub stands_first : (t : Tree) (ts : List Tree) → stands (t ∷ ts) t ≡ true
stands_first t ts = or_left (same_tree t t) (stands ts t) (same_self t)

-- what stands in the rest stands in the whole
pub stands_later : (x : Tree) (ts : List Tree) (t : Tree) → stands ts t ≡ true → stands (x ∷ ts) t ≡ true
stands_later x ts t h = or_right (same_tree x t) (stands ts t) h

-- what stands in a list is its first, or stands in the rest
pub stands_cases : (x : Tree) (ts : List Tree) (t : Tree) → stands (x ∷ ts) t ≡ true → (x ≡ t) ⊎ (stands ts t ≡ true)
stands_cases x ts t h = elim (or_cases (same_tree x t) (stands ts t) h) [ inl e ↦ inl (same_equal x t e) | inr e ↦ inr e ]

-- nothing stands in the empty list
pub stands_none : (t : Tree) {A : Type 0} → stands [] t ≡ true → A
stands_none t h = absurd (false≢true h)

-- what stands in a list stands before any other list
pub stands_before : (xs ys : List Tree) (t : Tree) → stands xs t ≡ true → stands (xs ++ ys) t ≡ true
stands_before [] ys t h = absurd (false≢true h)
stands_before (x ∷ xs) ys t h = grind (arith, nat_tests, stands_before xs ys t)

-- what stands in a list stands behind any other list
pub stands_behind : (xs ys : List Tree) (t : Tree) → stands ys t ≡ true → stands (xs ++ ys) t ≡ true
stands_behind [] ys t h = h
stands_behind (x ∷ xs) ys t h = grind (arith, nat_tests, stands_behind xs ys t h)

-- what stands in two lists together stands in one of them
pub stands_either : (xs ys : List Tree) (t : Tree) → stands (xs ++ ys) t ≡ true → (stands xs t ≡ true) ⊎ (stands ys t ≡ true)
stands_either [] ys t h = inr h
stands_either (x ∷ xs) ys t h = grind (arith, nat_tests, stands_either xs ys t)
