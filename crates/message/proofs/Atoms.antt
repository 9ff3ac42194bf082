-- Atoms, variables and their kinds. Assumes nothing.
use Rattle.std.proofs.Common.{◌≡◌, ℕ, ◌<◌, ◌≤◌, Bool, true, false, cond, eqb, ltb, leb, get_or, replicate, None, Option, sym, refl, ap, ◌∙◌, ⊎_elim, arith, lit≤}
use borrow.Author.Tests.{clash}
use Rattle.std.proofs.lemmas.List.{get_or-replicate, get_or_past, length-replicate}
use Rattle.std.proofs.lemmas.Bool.{cases_lt, le-ltb, eqb-true}
use Rattle.message.specs.declared.kind.Kind.{Kind}
use Rattle.message.specs.declared.kind.Kind.TheVariants.{Name, Nonce, Data, SharedKey, PairKey}
use Rattle.message.specs.declared.kind.Symbol.{Symbol}
use Rattle.message.specs.declared.kind.Symbol.TheVariants.{Atom, Variable, Join, Lock, Unused}
use Rattle.message.specs.Bytes.{symbol, is_atom, is_variable, is_locking, stands_for_atom, stands_for_variable, is_key_kind, can_lock}
use Rattle.message.specs.Filling.{of_kind, can_stand_for, is_atom_of, rank}

-- the signs that build forms are no variables
signs : (s t : Bool) → stands_for_variable (cond s Join (cond t Lock Unused)) ≡ false
signs true t = refl
signs false true = refl
signs false false = refl

-- no byte from D0 on is a variable
above_variables : (v : ℕ) → 0xD0 ≤ v → is_variable v ≡ false
unfolding is_variable
above_variables v h =
    let below : (n : ℕ) → n ≤ 0xD0 → ltb v n ≡ false = λ n p. le-ltb v n (omega arith) in
    simp (below 0x20 (lit≤ tt), below 0x40 (lit≤ tt), below 0x50 (lit≤ tt), below 0x60 (lit≤ tt), below 0x70 (lit≤ tt), below 0x80 (lit≤ tt), below 0x90 (lit≤ tt), below 0xA0 (lit≤ tt), below 0xB0 (lit≤ tt), below 0xC0 (lit≤ tt), below 0xD0 (lit≤ tt)) (signs (eqb v 0xF0) (eqb v 0xF1))

-- the variables are the bytes from 80 to CF
pub variable_place : (v : ℕ) → is_variable v ≡ true → (0x80 ≤ v) × (v < 0xD0)
unfolding is_variable
variable_place v e = (grind arith, ⊎_elim (λ h. h) (λ h. absurd (clash (sym (above_variables v h) ∙ e))) (cases_lt v 0xD0))

-- a place at which every value is missing
pub none_at : (n i : ℕ) → get_or (replicate {A = Option ℕ} n None) i None ≡ None
none_at n i = ⊎_elim (λ h. get_or-replicate n i None None h) (λ h. get_or_past (replicate n None) i None (omega (arith, length-replicate {A = Option ℕ} n None))) (cases_lt i n)

-- nothing, whatever the test says
pub chosen_none : {A : Type 0} (t : Bool) {o : Option A} → o ≡ None → elim t as (λ _. Option A) [ true ↦ o | false ↦ None ] ≡ None
chosen_none true e = e
chosen_none false e = refl

-- what a value is given to is a variable
pub of_kind_variable : (v a : ℕ) → of_kind v a ≡ true → is_variable v ≡ true
unfolding of_kind is_variable
of_kind_variable v a e = go (symbol v) e
  where
    go : (s : Symbol) → can_stand_for s (symbol a) ≡ true → stands_for_variable s ≡ true
    go (Atom k) e = e
    go (Variable k) e = refl
    go Join e = e
    go Lock e = e
    go Unused e = e

-- and the value is an atom
pub of_kind_atom : (v a : ℕ) → of_kind v a ≡ true → is_atom a ≡ true
unfolding of_kind is_atom
of_kind_atom v a e = go (symbol v) (symbol a) e
  where
    for : (k : Kind) (s : Symbol) → is_atom_of k s ≡ true → stands_for_atom s ≡ true
    for k (Atom j) e = refl
    for k (Variable j) e = e
    for k Join e = e
    for k Lock e = e
    for k Unused e = e

    go : (r s : Symbol) → can_stand_for r s ≡ true → stands_for_atom s ≡ true
    go (Variable k) s e = for k s e
    go (Atom k) s e = absurd (clash e)
    go Join s e = absurd (clash e)
    go Lock s e = absurd (clash e)
    go Unused s e = absurd (clash e)

-- no atom is a variable
pub atom_no_variable : (a : ℕ) → is_atom a ≡ true → is_variable a ≡ false
unfolding is_atom is_variable
atom_no_variable a e = go (symbol a) e
  where
    go : (s : Symbol) → stands_for_atom s ≡ true → stands_for_variable s ≡ false
    go (Atom k) e = refl
    go (Variable k) e = absurd (clash e)
    go Join e = refl
    go Lock e = refl
    go Unused e = refl

-- the keys are the last two kinds
key_rank : (k : Kind) → is_key_kind k ≡ leb 3 (rank k)
key_rank Name = refl
key_rank Nonce = refl
key_rank Data = refl
key_rank SharedKey = refl
key_rank PairKey = refl

-- what stands for a variable that may lock may lock
pub of_kind_locking : (v a : ℕ) → of_kind v a ≡ true → is_locking v ≡ true → is_locking a ≡ true
unfolding of_kind is_locking
of_kind_locking v a e key = go (symbol v) (symbol a) e key
  where
    for : (k : Kind) (s : Symbol) → is_atom_of k s ≡ true → is_key_kind k ≡ true → can_lock s ≡ true
    for k (Atom j) e key = key_rank j ∙ ap (leb 3) (sym (eqb-true (rank k) (rank j) e)) ∙ sym (key_rank k) ∙ key
    for k (Variable j) e key = absurd (clash e)
    for k Join e key = e
    for k Lock e key = e
    for k Unused e key = e

    go : (r s : Symbol) → can_stand_for r s ≡ true → can_lock r ≡ true → can_lock s ≡ true
    go (Variable k) s e key = for k s e key
    go (Atom k) s e key = absurd (clash e)
    go Join s e key = absurd (clash e)
    go Lock s e key = absurd (clash e)
    go Unused s e key = absurd (clash e)
