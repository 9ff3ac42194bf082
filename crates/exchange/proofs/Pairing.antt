-- Reading pairs of a variable and its atom, one after the other.
use Rattle.std.proofs.Common.{◌≡◌, ℕ, suc, ◌-◌, ◌≤◌, true, ltb, List, [], ◌∷◌, ◌++◌, length, get_or, take, drop, Ok, sym, refl, ap, ◌∙◌, arith}
use Rattle.std.specs.List.{slice_get}
use Rattle.std.specs.Option.{option_map_or}
use Rattle.std.proofs.lemmas.List.{take_rest}
use Rattle.exchange.specs.Checks.{then, is_next, pair_fits, bindings_of}
use Rattle.exchange.specs.Exchanges.{Step, Binding}

-- a pair is left
pub pair_more : (atoms : List ℕ) (steps : List Step) (got : List Binding) (left : List ℕ) → 2 ≤ length left
    → bindings_of atoms steps got left ≡ then (pair_fits atoms steps got (get_or left 0 0) (get_or left 1 0)) (λ b. bindings_of atoms steps (got ++ b ∷ []) (take (length left - 2) (drop 2 left)))
unfolding bindings_of
pair_more atoms steps got [] h = absurd (omega arith)
pair_more atoms steps got (v ∷ []) h = absurd (omega arith)
pair_more atoms steps got (v ∷ (a ∷ rest)) h = ap (λ l. then (pair_fits atoms steps got v a) (λ b. bindings_of atoms steps (got ++ b ∷ []) l)) (sym (take_rest (v ∷ (a ∷ rest)) 2))

-- no pair is left
pub pair_none : (atoms : List ℕ) (steps : List Step) (got : List Binding) (rest : List ℕ) → length rest ≤ 1 → bindings_of atoms steps got rest ≡ Ok got
unfolding bindings_of
pair_none atoms steps got [] h = refl
pair_none atoms steps got (v ∷ []) h = refl
pair_none atoms steps got (v ∷ (a ∷ rest)) h = absurd (omega arith)

-- what may follow is larger than the last
pub next_is : (got : List Binding) (v : ℕ) → is_next got v ≡ option_map_or (λ b. ltb b.variable v) (slice_get got (length got - 1)) true
next_is [] v = refl
next_is (b ∷ []) v = refl
next_is (b ∷ (e ∷ rest)) v = next_is (e ∷ rest) v ∙ ap (λ o. option_map_or (λ b. ltb b.variable v) o true) (step (length rest))
  where
    step : (n : ℕ) → slice_get (e ∷ rest) (suc n - 1) ≡ slice_get (b ∷ (e ∷ rest)) (suc (suc n) - 1)
    step n = let p : suc n - 1 ≡ n = omega arith in let q : suc (suc n) - 1 ≡ suc n = omega arith in ap (slice_get (e ∷ rest)) p ∙ ap (slice_get (b ∷ (e ∷ rest))) (sym q)
