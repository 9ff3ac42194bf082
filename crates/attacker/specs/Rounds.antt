-- The rounds end with a list that a further round leaves as it is, and that the rules derive.
use Rattle.std.specs.Prelude.{◌≡◌, ℕ, zero, suc, ◌+◌, ◌≤◌, Bool, true, false, List, length, ◌==◌, refl}
use Rattle.std.proofs.Common.{sym, arith}
use Rattle.std.proofs.lemmas.Bool.{eqb-true, eqb-false}
use Rattle.message.specs.Trees.{Tree}
use Rattle.attacker.specs.Derivation.{Derivable, stands, all_parts, closure, total_size}
use Rattle.attacker.specs.Growing.{Grown, all_grow, all_few}
use Rattle.attacker.specs.Closing.{all_derived}

-- a further round leaves the list as it is
abbrev pub Settled : List Tree → List Tree → Type 0
Settled ts found = found ≡ all_parts (stands found) ts

-- a list that grows in each round is settled after as many rounds as there are bytes that it has not reached
pub closure_settles : (n : ℕ) (ts found : List Tree) → Grown found (all_parts (stands found) ts) → total_size ts ≤ n + length found → Settled ts (closure n ts found)
closure_settles zero ts found g b =
    let few = all_few (stands found) ts in
    let long = g.longer in
    let e : length found ≡ length (all_parts (stands found) ts) = omega arith in
    g.same e
closure_settles (suc n) ts found g b =
    go (length (all_parts (stands found) ts) == length found) refl
    (λ l. closure_settles n ts (all_parts (stands found) ts) (all_grow (stands found) (stands (all_parts (stands found) ts)) g.keeps ts) l)
  where
    go : (t : Bool) → (length (all_parts (stands found) ts) == length found) ≡ t → (total_size ts ≤ n + length (all_parts (stands found) ts) → Settled ts (closure n ts (all_parts (stands found) ts))) → Settled ts (elim t [ true ↦ found | false ↦ closure n ts (all_parts (stands found) ts) ])
    go true e ih = g.same (sym (eqb-true (length (all_parts (stands found) ts)) (length found) e))
    go false e ih =
        let apart = eqb-false (length (all_parts (stands found) ts)) (length found) e in
        let long = g.longer in
        ih (omega arith)

-- whatever the rounds find is derivable, if the messages are
pub closure_derived : (heard : List (List ℕ)) (n : ℕ) (ts found : List Tree) → ((t : Tree) → stands ts t ≡ true → Derivable heard t) → ((t : Tree) → stands found t ≡ true → Derivable heard t) → (t : Tree) → stands (closure n ts found) t ≡ true → Derivable heard t
closure_derived heard zero ts found d f t h = f t h
closure_derived heard (suc n) ts found d f t h =
    go (length (all_parts (stands found) ts) == length found)
    (closure_derived heard n ts (all_parts (stands found) ts) d (all_derived heard (stands found) f ts d) t) h
  where
    go : (b : Bool) → (stands (closure n ts (all_parts (stands found) ts)) t ≡ true → Derivable heard t) → stands (elim b [ true ↦ found | false ↦ closure n ts (all_parts (stands found) ts) ]) t ≡ true → Derivable heard t
    go true ih e = f t e
    go false ih e = ih e
