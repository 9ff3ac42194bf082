-- Tests over the elements of a list, and what lists that are put together keep. Assumes nothing.
use Rattle.std.proofs.Common.{◌≡◌, ℕ, zero, suc, ◌*◌, ◌<◌, ◌≤◌, Bool, true, false, eqb, ltb, List, [], ◌∷◌, ◌++◌, length, get_or, sym, refl, ap, ◌∙◌, ⊎_elim, suc-mul, arith}
use borrow.Author.Tests.{clash}
use Rattle.std.specs.List.{flat_map, list_all}
use Rattle.std.proofs.lemmas.List.Folds.{list_all-append}
use Rattle.std.proofs.lemmas.List.{length-append, length_push, flat_map_more}
use Rattle.std.proofs.lemmas.Bool.{and_parts, and_from, or_parts, or_from, not-true, not_from_false, eqb-false, ne_eqb, cases_lt}
use Rattle.message.specs.Trees.{is_form, reads}
use Rattle.message.specs.Variables.{among, is_new, noted, firsts_from, firsts}
use Rattle.message.proofs.Whole.{too_long}
use Rattle.exchange.specs.Rules.{each_below, once, ascending}

module _ {A : Type 0} (test : A → Bool) where
  -- each element of both lists passes
  pub each_append : (xs ys : List A) → list_all test xs ≡ true → list_all test ys ≡ true → list_all test (xs ++ ys) ≡ true
  each_append xs ys e f = list_all-append test xs ys ∙ and_from _ _ e f

  -- one more element that passes
  pub each_push : (xs : List A) (x : A) → list_all test xs ≡ true → test x ≡ true → list_all test (xs ++ x ∷ []) ≡ true
  each_push xs x e f = each_append xs (x ∷ []) e (and_from _ _ f refl)

  -- where each element of two lists passes, it does in either
  pub each_parts : (xs ys : List A) → list_all test (xs ++ ys) ≡ true → (list_all test xs ≡ true) × (list_all test ys ≡ true)
  each_parts xs ys e = and_parts _ _ (sym (list_all-append test xs ys) ∙ e)

  -- an element between others passes
  pub each_between : (xs : List A) (x : A) (ys : List A) → list_all test (xs ++ x ∷ ys) ≡ true → test x ≡ true
  each_between xs x ys e = (and_parts _ _ (each_parts xs (x ∷ ys) e).1).0

  -- the element at a place passes
  pub each_at : (xs : List A) (i : ℕ) (d : A) → i < length xs → list_all test xs ≡ true → test (get_or xs i d) ≡ true
  each_at [] i d h e = absurd (omega arith)
  each_at (x ∷ xs) zero d h e = (and_parts _ _ e).0
  each_at (x ∷ xs) (suc i) d h e = each_at xs i d (omega arith) (and_parts _ _ e).1

  -- what is written of elements that pass is at most their number times what is written of one
  pub joined_short : {B : Type 0} (f : A → List B) (k : ℕ) → ((x : A) → test x ≡ true → length (f x) ≤ k) → (xs : List A) → list_all test xs ≡ true → length (flat_map f xs) ≤ length xs * k
  joined_short f k one [] e = omega arith
  joined_short f k one (x ∷ xs) e =
      let parts = and_parts _ _ e in
      omega (arith, length-append (f x) (flat_map f xs), one x parts.0, joined_short f k one xs parts.1, suc-mul (length xs) k)

-- the test holds of a number below n
pub below_at : (n : ℕ) (test : ℕ → Bool) → each_below n test ≡ true → (i : ℕ) → i < n → test i ≡ true
below_at zero test e i h = absurd (omega arith)
below_at (suc n) test e i h =
    let parts = and_parts _ _ e in
    ⊎_elim (λ l. below_at n test parts.0 i l) (λ g. let is : n ≡ i = omega arith in ap test (sym is) ∙ parts.1) (cases_lt i n)

-- a number that is in neither list
pub absent_parts : (c : ℕ) (xs ys : List ℕ) → among c (xs ++ ys) ≡ false → (among c xs ≡ false) × (among c ys ≡ false)
absent_parts c [] ys e = (refl, e)
absent_parts c (x ∷ xs) ys e =
    let here = or_parts _ _ e in
    let rest = absent_parts c xs ys here.1 in
    (or_from _ _ here.0 rest.0, rest.1)

-- where no number stands twice, one between others is not among those before it
pub once_new : (xs : List ℕ) (a : ℕ) (ys : List ℕ) → once (xs ++ a ∷ ys) ≡ true → among a xs ≡ false
once_new [] a ys e = refl
once_new (x ∷ xs) a ys e =
    let parts = and_parts _ _ e in
    let absent = (absent_parts x xs (a ∷ ys) (not-true (among x (xs ++ a ∷ ys)) parts.0)).1 in
    let other = eqb-false x a (or_parts _ _ absent).0 in
    or_from _ _ (ne_eqb a x (λ same. other (sym same))) (once_new xs a ys parts.1)

-- the variables found in more bytes, after those found before
pub firsts_after : (found bs cs : List ℕ) → firsts_from found (bs ++ cs) ≡ firsts_from (firsts_from found bs) cs
firsts_after found [] cs = refl
firsts_after found (b ∷ bs) cs = firsts_after (noted found b) bs cs

-- what was found stays found
pub firsts_more : (found bs : List ℕ) → length found ≤ length (firsts_from found bs)
firsts_more found [] = omega arith
firsts_more found (b ∷ bs) = omega (arith, go (is_new found b), firsts_more (noted found b) bs)
  where
    go : (t : Bool) → length found ≤ length {A = ℕ} (elim t as (λ _. List ℕ) [ true ↦ found ++ b ∷ [] | false ↦ found ])
    go true = omega (arith, length_push found b)
    go false = omega arith

-- more bytes have no fewer variables
pub firsts_grow : (bs cs : List ℕ) → length (firsts bs) ≤ length (firsts (bs ++ cs))
firsts_grow bs cs = omega (arith, firsts_more (firsts bs) cs, ap length (firsts_after [] bs cs))

-- a form has 1 to 24 bytes
pub form_short : (bs : List ℕ) → is_form bs ≡ true → (1 ≤ length bs) × (length bs ≤ 24)
unfolding reads
form_short [] e = absurd (clash e)
form_short (b ∷ bs) e = (omega arith, ⊎_elim (λ h. absurd (clash (sym (too_long (b ∷ bs) h) ∙ e))) (λ h. h) (cases_lt 24 (length (b ∷ bs))))

-- a number that is neither among them nor the one more
pub among_push : (b a : ℕ) (xs : List ℕ) → among b xs ≡ false → eqb b a ≡ false → among b (xs ++ a ∷ []) ≡ false
among_push b a [] e h = or_from _ _ h refl
among_push b a (c ∷ cs) e h =
    let p = or_parts _ _ e in
    or_from _ _ p.0 (among_push b a cs p.1 h)

-- one number more that was not among them
pub once_push : (xs : List ℕ) (a : ℕ) → once xs ≡ true → among a xs ≡ false → once (xs ++ a ∷ []) ≡ true
once_push [] a e h = refl
once_push (b ∷ bs) a e h =
    let p = and_parts _ _ e in
    let q = or_parts _ _ h in
    let apart : eqb b a ≡ false = ne_eqb b a (λ s. eqb-false a b q.0 (sym s)) in
    and_from _ _
    (not_from_false (among b (bs ++ a ∷ [])) (among_push b a bs (not-true (among b bs) p.0) apart))
    (once_push bs a p.1 q.1)

-- one number more that is larger than each
pub ascending_push : (xs : List ℕ) (a : ℕ) → ascending xs ≡ true → list_all (λ u. ltb u a) xs ≡ true → ascending (xs ++ a ∷ []) ≡ true
ascending_push [] a e h = refl
ascending_push (b ∷ bs) a e h =
    let p = and_parts _ _ e in
    let q = and_parts _ _ h in
    and_from _ _ (each_push (ltb b) bs a p.0 q.0) (ascending_push bs a p.1 q.1)

-- what the parts give, one part more
pub joined_push : {X A : Type 0} (f : X → List A) (xs : List X) (x : X) → flat_map f (xs ++ x ∷ []) ≡ flat_map f xs ++ f x
joined_push f xs x = sym (flat_map_more f [] xs x)
