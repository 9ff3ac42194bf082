-- The variables found so far are those of the bytes so far, in order of first occurrence. Assumes nothing.
use Rattle.std.proofs.Common.{◌≡◌, ℕ, zero, suc, ◌+◌, ◌<◌, ◌≤◌, Bool, true, false, not, ◌&&◌, ◌||◌, eqb, List, [], ◌∷◌, ◌++◌, length, get_or, sym, refl, ap, ◌∙◌, subst, ⊎_elim, append_assoc, append-nil, arith}
use borrow.Author.Tests.{clash}
use Rattle.std.proofs.lemmas.List.{length_push, get_or_push, get_or_append_left}
use Rattle.std.proofs.lemmas.Bool.{and_parts, not-true, or_cases, or_left, or_right, eqb-true, eq-eqb, cases_lt, both_ways, cases_Bool}
use Rattle.message.specs.Bytes.{is_variable}
use Rattle.message.specs.Variables.{among, is_new, noted, firsts_from, firsts, first_at, InOrder}

-- what is noted, where it is known whether the byte is new
pub noted_new : (found : List ℕ) (b : ℕ) → is_new found b ≡ true → noted found b ≡ found ++ b ∷ []
noted_new found b e = ap (λ t. elim t as (λ _. List ℕ) [ true ↦ found ++ b ∷ [] | false ↦ found ]) e

pub noted_old : (found : List ℕ) (b : ℕ) → is_new found b ≡ false → noted found b ≡ found
noted_old found b e = ap (λ t. elim t as (λ _. List ℕ) [ true ↦ found ++ b ∷ [] | false ↦ found ]) e

-- noting a byte adds it or nothing
pub noted_bounds : (found : List ℕ) (b : ℕ) → (length found ≤ length (noted found b)) × (length (noted found b) ≤ length found + 1)
noted_bounds found b = go (is_new found b) refl
  where
    go : (t : Bool) → is_new found b ≡ t → (length found ≤ length (noted found b)) × (length (noted found b) ≤ length found + 1)
    go true e = let n = ap length (noted_new found b e) ∙ length_push found b in (omega (arith, n), omega (arith, n))
    go false e = let n = ap length (noted_old found b e) in (omega (arith, n), omega (arith, n))

-- one byte more at the end
among_push : (x b : ℕ) (bs : List ℕ) → among x (bs ++ b ∷ []) ≡ among x bs || eqb x b
among_push x b [] = nothing (eqb x b)
  where
    nothing : (t : Bool) → (t || false) ≡ t
    nothing true = refl
    nothing false = refl
among_push x b (c ∷ bs) = ap (λ t. eqb x c || t) (among_push x b bs) ∙ group (eqb x c) (among x bs) (eqb x b)
  where
    group : (r s t : Bool) → (r || (s || t)) ≡ ((r || s) || t)
    group true s t = refl
    group false s t = refl

-- what occurs still occurs, and the new byte does
among_kept : (x b : ℕ) (bs : List ℕ) → among x bs ≡ true → among x (bs ++ b ∷ []) ≡ true
among_kept x b bs e = among_push x b bs ∙ or_left (among x bs) (eqb x b) e

among_last : (b : ℕ) (bs : List ℕ) → among b (bs ++ b ∷ []) ≡ true
among_last b bs = among_push b b bs ∙ or_right (among b bs) (eqb b b) (eq-eqb b b refl)

-- the byte at a place occurs
among_at : (bs : List ℕ) (i : ℕ) → i < length bs → among (get_or bs i 0) bs ≡ true
among_at [] i h = absurd (omega arith)
among_at (b ∷ bs) zero h = or_left (eqb b b) (among b bs) (eq-eqb b b refl)
among_at (b ∷ bs) (suc i) h = or_right (eqb (get_or bs i 0) b) (among (get_or bs i 0) bs) (among_at bs i (omega arith))

-- the first place of a byte that occurs is a place, and stays the same
first_within : (x : ℕ) (bs : List ℕ) → among x bs ≡ true → first_at x bs < length bs
first_within x [] e = absurd (clash e)
first_within x (c ∷ bs) e = go (eqb x c) e (first_within x bs)
  where
    go : (t : Bool) → (t || among x bs) ≡ true → (among x bs ≡ true → first_at x bs < length bs) → elim t as (λ _. ℕ) [ true ↦ 0 | false ↦ suc (first_at x bs) ] < suc (length bs)
    go true e rest = omega arith
    go false e rest = omega (arith, rest e)

first_kept : (x : ℕ) (bs more : List ℕ) → among x bs ≡ true → first_at x (bs ++ more) ≡ first_at x bs
first_kept x [] more e = absurd (clash e)
first_kept x (c ∷ bs) more e = go (eqb x c) e (first_kept x bs more)
  where
    go : (t : Bool) → (t || among x bs) ≡ true → (among x bs ≡ true → first_at x (bs ++ more) ≡ first_at x bs)
        → elim t as (λ _. ℕ) [ true ↦ 0 | false ↦ suc (first_at x (bs ++ more)) ] ≡ elim t as (λ _. ℕ) [ true ↦ 0 | false ↦ suc (first_at x bs) ]
    go true e rest = refl
    go false e rest = ap suc (rest e)

-- a byte that does not occur comes after all
first_new : (x : ℕ) (bs more : List ℕ) → among x bs ≡ false → length bs ≤ first_at x (bs ++ more)
first_new x [] more e = omega arith
first_new x (c ∷ bs) more e = go (eqb x c) e (first_new x bs more)
  where
    go : (t : Bool) → (t || among x bs) ≡ false → (among x bs ≡ false → length bs ≤ first_at x (bs ++ more)) → suc (length bs) ≤ elim t as (λ _. ℕ) [ true ↦ 0 | false ↦ suc (first_at x (bs ++ more)) ]
    go true e rest = absurd (clash (sym e))
    go false e rest = omega (arith, rest e)

-- names in order are all different
once_from_order : (names bs : List ℕ) → ((i j : ℕ) → i < j → j < length names → first_at (get_or names i 0) bs < first_at (get_or names j 0) bs)
    → (i j : ℕ) → i < j → j < length names → get_or names i 0 ≡ get_or names j 0 → ⊥
once_from_order names bs order i j h l e = omega (arith, order i j h l, ap (λ x. first_at x bs) e)

module _ (found bs : List ℕ) (so : InOrder found bs) (b : ℕ) where
  -- a name keeps its first place when a byte comes after
  kept : (i : ℕ) → i < length found → first_at (get_or found i 0) (bs ++ b ∷ []) ≡ first_at (get_or found i 0) bs
  kept i h = first_kept (get_or found i 0) bs (b ∷ []) (so.only (get_or found i 0) (among_at found i h)).1

  in_order_old : is_new found b ≡ false → InOrder found (bs ++ b ∷ [])
  in_order_old old = record { all = all; only = only; once = once_from_order found (bs ++ b ∷ []) order; order = order }
    where
      stale : is_variable b ≡ true → among b found ≡ true
      stale is = go (among b found) (sym (ap (λ t. t && not (among b found)) is) ∙ old)
        where
          go : (t : Bool) → not t ≡ false → t ≡ true
          go true e = refl
          go false e = absurd (clash (sym e))

      all : (x : ℕ) → is_variable x ≡ true → among x (bs ++ b ∷ []) ≡ true → among x found ≡ true
      all x is e = ⊎_elim (λ before. so.all x is before) (λ same. let x-is = eqb-true x b same in ap (λ y. among y found) x-is ∙ stale (ap is_variable (sym x-is) ∙ is)) (or_cases (among x bs) (eqb x b) (sym (among_push x b bs) ∙ e))

      only : (x : ℕ) → among x found ≡ true → (is_variable x ≡ true) × (among x (bs ++ b ∷ []) ≡ true)
      only x e = let known = so.only x e in (known.0, among_kept x b bs known.1)

      order : (i j : ℕ) → i < j → j < length found → first_at (get_or found i 0) (bs ++ b ∷ []) < first_at (get_or found j 0) (bs ++ b ∷ [])
      order i j h l = omega (arith, kept i (omega arith), kept j l, so.order i j h l)

  in_order_new : is_new found b ≡ true → InOrder (found ++ b ∷ []) (bs ++ b ∷ [])
  in_order_new new = record { all = all; only = only; once = once_from_order (found ++ b ∷ []) (bs ++ b ∷ []) order; order = order }
    where
      parts : (is_variable b ≡ true) × (not (among b found) ≡ true)
      parts = and_parts (is_variable b) (not (among b found)) new

      -- it is new to the bytes too
      absent : among b bs ≡ false
      absent = ⊎_elim (λ e. absurd (both_ways (among b found) (not-true (among b found) parts.1) (so.all b parts.0 e))) (λ e. e) (cases_Bool (among b bs))

      all : (x : ℕ) → is_variable x ≡ true → among x (bs ++ b ∷ []) ≡ true → among x (found ++ b ∷ []) ≡ true
      all x is e = ⊎_elim (λ before. among_kept x b found (so.all x is before)) (λ same. ap (λ y. among y (found ++ b ∷ [])) (eqb-true x b same) ∙ among_last b found) (or_cases (among x bs) (eqb x b) (sym (among_push x b bs) ∙ e))

      only : (x : ℕ) → among x (found ++ b ∷ []) ≡ true → (is_variable x ≡ true) × (among x (bs ++ b ∷ []) ≡ true)
      only x e =
          ⊎_elim (λ before. let known = so.only x before in (known.0, among_kept x b bs known.1))
          (λ same. let x-is = eqb-true x b same in (ap is_variable x-is ∙ parts.0, ap (λ y. among y (bs ++ b ∷ [])) x-is ∙ among_last b bs))
          (or_cases (among x found) (eqb x b) (sym (among_push x b found) ∙ e))

      earlier : (i : ℕ) → i < length found → first_at (get_or (found ++ b ∷ []) i 0) (bs ++ b ∷ []) ≡ first_at (get_or found i 0) bs
      earlier i h = ap (λ y. first_at y (bs ++ b ∷ [])) (get_or_append_left found (b ∷ []) 0 i h) ∙ kept i h

      order : (i j : ℕ) → i < j → j < length (found ++ b ∷ []) → first_at (get_or (found ++ b ∷ []) i 0) (bs ++ b ∷ []) < first_at (get_or (found ++ b ∷ []) j 0) (bs ++ b ∷ [])
      order i j h l = ⊎_elim both last (cases_lt j (length found))
        where
          both : j < length found → first_at (get_or (found ++ b ∷ []) i 0) (bs ++ b ∷ []) < first_at (get_or (found ++ b ∷ []) j 0) (bs ++ b ∷ [])
          both k = omega (arith, earlier i (omega arith), earlier j k, so.order i j h k)

          last : length found ≤ j → first_at (get_or (found ++ b ∷ []) i 0) (bs ++ b ∷ []) < first_at (get_or (found ++ b ∷ []) j 0) (bs ++ b ∷ [])
          last k =
              let at : length found ≡ j = omega (arith, length_push found b) in
              let name : get_or (found ++ b ∷ []) j 0 ≡ b = get_or_push found b 0 j at in
              omega (
                arith,
                earlier i (omega arith),
                first_within (get_or found i 0) bs (so.only (get_or found i 0) (among_at found i (omega arith))).1,
                ap (λ y. first_at y (bs ++ b ∷ [])) name,
                first_new b bs (b ∷ []) absent,
              )

  in_order_noted : InOrder (noted found b) (bs ++ b ∷ [])
  in_order_noted = go (is_new found b) refl
    where
      go : (t : Bool) → is_new found b ≡ t → InOrder (noted found b) (bs ++ b ∷ [])
      go true e = subst (λ l. InOrder l (bs ++ b ∷ [])) (sym (noted_new found b e)) (in_order_new e)
      go false e = subst (λ l. InOrder l (bs ++ b ∷ [])) (sym (noted_old found b e)) (in_order_old e)

in_order_from : (more found bs : List ℕ) → InOrder found bs → InOrder (firsts_from found more) (bs ++ more)
in_order_from [] found bs so = subst (InOrder found) (sym (append-nil bs)) so
in_order_from (b ∷ more) found bs so = subst (InOrder (firsts_from (noted found b) more)) (append_assoc bs (b ∷ []) more) (in_order_from more (noted found b) (bs ++ b ∷ []) (in_order_noted found bs so b))

-- the variables of the bytes stand in order of first occurrence
pub firsts_in_order : (bs : List ℕ) → InOrder (firsts bs) bs
firsts_in_order bs = in_order_from bs [] [] (record { all = λ b is e. e; only = λ b e. absurd (clash e); once = λ i j h l e. omega arith; order = λ i j h l. omega arith })
