-- Occurring in bytes. Assumes nothing.
use Rattle.std.proofs.Common.{◌≡◌, ℕ, ◌||◌, List, [], ◌∷◌, nat_eq, refl, ap}
use Rattle.std.specs.List.{list_any}
use Rattle.message.specs.Variables.{among}

-- the library's test of the same
pub found_is : (b : ℕ) (bs : List ℕ) → list_any (λ c. nat_eq b c) bs ≡ among b bs
found_is b [] = refl
found_is b (c ∷ cs) = ap (λ t. nat_eq b c || t) (found_is b cs)
