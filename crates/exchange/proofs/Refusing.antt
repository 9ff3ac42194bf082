-- What is known where a row of checks refused nothing.
use Rattle.std.proofs.Common.{◌≡◌, ℕ, Bool, true, false, Some, None, Ok, Err, Option, Result, sym, refl, subst, arith}
use Rattle.std.specs.Option.{ok_or}
use Rattle.std.specs.Result.{MatchResult, IsErrAnd}
use Rattle.message.specs.declared.stop.Stop.{Stop}
use Rattle.exchange.specs.Checks.{unless, then}

-- two values that came are the same
pub ok_same : {A : Type 0} (x y : A) → ◌≡◌ {A = Result A Stop} (Ok x) (Ok y) → x ≡ y
ok_same x y e = cc

-- a refusal is no value
pub not_ok : {A : Type 0} (stop : Stop) (y : A) → ◌≡◌ {A = Result A Stop} (Err stop) (Ok y) → ⊥
not_ok stop y e = let z : ◌≡◌ {A = ℕ} 0 1 = cc in omega arith

-- the test held, and the rest gave the value
pub unless_ok : {A : Type 0} (test : Bool) (stop : Stop) (next : Result A Stop) (y : A) → unless test stop next ≡ Ok y → (test ≡ true) × (next ≡ Ok y)
unless_ok true stop next y e = (refl, e)
unless_ok false stop next y e = absurd (not_ok stop y e)

-- the first gave a value, and the second gave its own from it
pub then_ok : {A B : Type 0} (r : Result A Stop) (next : A → Result B Stop) (y : B) → then r next ≡ Ok y → (x : A) × (r ≡ Ok x) × (next x ≡ Ok y)
then_ok (Ok x) next y e = (x, refl, e)
then_ok (Err stop) next y e = absurd (not_ok stop y e)

-- there was something
pub ok_or_ok : {A : Type 0} (o : Option A) (stop : Stop) (y : A) → ok_or o stop ≡ Ok y → o ≡ Some y
ok_or_ok (Some x) stop y e = cc
ok_or_ok None stop y e = absurd (not_ok stop y e)

-- what follows from either way of a test
pub either_way : {A : Type 0} (P : Type 0) (test : Bool) (here next y : A) → (test ≡ true → here ≡ y → P) → (next ≡ y → P) → elim test as (λ _. A) [ true ↦ here | false ↦ next ] ≡ y → P
either_way P true here next y f g e = f refl e
either_way P false here next y f g e = g e

-- what holds of a refusal holds of it where it was handed on
pub handed_on : {A : Type 0} (r : Result A Stop) (P : A → Type 0) (Q : Stop → Type 0) (stop : Stop) → IsErrAnd r (λ y. y ≡ stop) → Q stop → MatchResult r P Q
handed_on (Ok x) P Q stop h q = absurd h
handed_on (Err y) P Q stop h q = subst Q (sym h) q
