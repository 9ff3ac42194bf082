-- Numbers that stand once and lie below a bound are no more than the bound. Assumes nothing.
use Rattle.std.proofs.Common.{◌≡◌, ℕ, zero, suc, ◌<◌, ◌≤◌, Bool, true, false, cond, eqb, ltb, List, [], ◌∷◌, map, length, sym, refl, ap, ◌∙◌, ⊎_elim, arith, lit≤}
use Rattle.std.specs.List.{list_all}
use borrow.Author.Tests.{clash}
use Rattle.std.proofs.lemmas.List.{length-map}
use Rattle.std.proofs.lemmas.Bool.{and_parts, and_from, or_parts, or_from, not-true, not_from_false, ltb-true, lt-ltb, le-ltb, eqb-true, eqb-false, cases_Bool, cases_lt}
use Rattle.message.specs.declared.kind.Kind.TheVariants.{Name, Nonce, Data, SharedKey, PairKey}
use Rattle.message.specs.declared.kind.Symbol.TheVariants.{Variable, Join, Lock, Unused}
use Rattle.message.specs.Bytes.{is_atom, stands_for_atom}
use Rattle.message.specs.Variables.{among}
use Rattle.exchange.specs.Exchanges.{Declaration, Exchange}
use Rattle.exchange.specs.Rules.{once, atoms_of, declaration_fits}

-- a number below n + 1 that is not n lies below n
lower : (n a : ℕ) → ltb a (suc n) ≡ true → eqb n a ≡ false → ltb a n ≡ true
lower n a below other = lt-ltb a n (⊎_elim (λ h. h) (λ h. absurd (eqb-false n a other (omega (arith, ltb-true a (suc n) below)))) (cases_lt a n))

-- numbers below n + 1 of which none is n lie below n
each_lower : (n : ℕ) (xs : List ℕ) → among n xs ≡ false → list_all (λ a. ltb a (suc n)) xs ≡ true → list_all (λ a. ltb a n) xs ≡ true
each_lower n [] absent below = refl
each_lower n (a ∷ xs) absent below =
    let parts = and_parts _ _ below in
    let apart = or_parts _ _ absent in
    and_from _ _ (lower n a parts.0 apart.0) (each_lower n xs apart.1 parts.1)

-- numbers without n that lie below n, at most one fewer
record Lowered (n : ℕ) (xs : List ℕ) : Type 0 where
  left : List ℕ
  apart : once left ≡ true
  low : list_all (λ a. ltb a n) left ≡ true
  longer : length xs ≤ suc (length left)
  absent : (c : ℕ) → among c xs ≡ false → among c left ≡ false

-- of numbers that stand once below n + 1 only one can be n
lowered : (n : ℕ) (xs : List ℕ) → once xs ≡ true → list_all (λ a. ltb a (suc n)) xs ≡ true → Lowered n xs
lowered n [] apart below = record { left = []; apart = refl; low = refl; longer = omega arith; absent = λ c e. e }
lowered n (a ∷ xs) apart below =
    let parts = and_parts _ _ below in
    let new = and_parts _ _ apart in
    let rest = lowered n xs new.1 parts.1 in
    let gone = not-true (among a xs) new.0 in
    ⊎_elim
    (λ e. record {
      left = xs;
      apart = new.1;
      low = each_lower n xs (ap (λ c. among c xs) (eqb-true n a e) ∙ gone) parts.1;
      longer = omega arith;
      absent = λ c k. (or_parts _ _ k).1;
    })
    (λ e. record {
      left = a ∷ rest.left;
      apart = and_from _ _ (not_from_false (among a rest.left) (rest.absent a gone)) rest.apart;
      low = and_from _ _ (lower n a parts.0 e) rest.low;
      longer = omega (arith, rest.longer);
      absent = λ c k. let both = or_parts _ _ k in or_from _ _ both.0 (rest.absent c both.1);
    })
    (cases_Bool (eqb n a))

-- numbers that stand once and lie below n are at most n
pub once_below : (n : ℕ) (xs : List ℕ) → once xs ≡ true → list_all (λ a. ltb a n) xs ≡ true → length xs ≤ n
once_below zero [] apart below = omega arith
once_below zero (a ∷ xs) apart below = absurd (omega (arith, ltb-true a 0 (and_parts _ _ below).0))
once_below (suc n) xs apart below =
    let less = lowered n xs apart below in
    omega (arith, less.longer, once_below n less.left less.apart less.low)

-- from 70 on no byte is an atom
above_atoms : (a : ℕ) → 0x70 ≤ a → is_atom a ≡ false
unfolding is_atom
above_atoms a h =
    let below : (n : ℕ) → n ≤ 0x70 → ltb a n ≡ false = λ n p. le-ltb a n (omega arith) in
    simp (below 0x20 (lit≤ tt), below 0x40 (lit≤ tt), below 0x50 (lit≤ tt), below 0x60 (lit≤ tt), below 0x70 (lit≤ tt)) (signs (ltb a 0x80) (ltb a 0x90) (ltb a 0xA0) (ltb a 0xB0) (ltb a 0xC0) (ltb a 0xD0) (eqb a 0xF0) (eqb a 0xF1))
  where
    signs : (p q r s t u v w : Bool) → stands_for_atom (cond p Unused (cond q (Variable Name) (cond r (Variable Nonce) (cond s (Variable Data) (cond t (Variable SharedKey) (cond u (Variable PairKey) (cond v Join (cond w Lock Unused)))))))) ≡ false
    signs true q r s t u v w = refl
    signs false true r s t u v w = refl
    signs false false true s t u v w = refl
    signs false false false true t u v w = refl
    signs false false false false true u v w = refl
    signs false false false false false true v w = refl
    signs false false false false false false true w = refl
    signs false false false false false false false true = refl
    signs false false false false false false false false = refl

-- an atom is a byte below 70
pub atom_below : (a : ℕ) → is_atom a ≡ true → a < 0x70
atom_below a e = ⊎_elim (λ h. h) (λ h. absurd (clash (sym (above_atoms a h) ∙ e))) (cases_lt a 0x70)

-- so different atoms are at most 112
pub atoms_below : (ns : List ℕ) → list_all is_atom ns ≡ true → once ns ≡ true → length ns ≤ 112
atoms_below ns atoms apart = once_below 0x70 ns apart (go ns atoms)
  where
    go : (ns : List ℕ) → list_all is_atom ns ≡ true → list_all (λ a. ltb a 0x70) ns ≡ true
    go [] e = refl
    go (a ∷ ns) e =
        let parts = and_parts _ _ e in
        and_from _ _ (lt-ltb a 0x70 (atom_below a parts.0)) (go ns parts.1)

-- and so are the declared ones
pub atoms_few : (x : Exchange) → list_all declaration_fits x.atoms ≡ true → once (atoms_of x) ≡ true → length x.atoms ≤ 112
atoms_few x fit apart = omega (arith, length-map x.atoms (λ d. d.atom), atoms_below (atoms_of x) (go x.atoms fit) apart)
  where
    go : (ds : List Declaration) → list_all declaration_fits ds ≡ true → list_all is_atom (map (λ d. d.atom) ds) ≡ true
    go [] e = refl
    go (d ∷ ds) e =
        let parts = and_parts _ _ e in
        let own = and_parts _ _ parts.0 in
        and_from _ _ own.0 (go ds parts.1)
