-- Elements of a list, as they stand in the list of what they stand for.
use Rattle.std.proofs.Common.{◌≡◌, ◌-◌, List, map, length, ap, ◌∙◌}
use Rattle.std.specs.List.{slice_get}
use Rattle.std.specs.Option.{option_map}
use Rattle.std.proofs.lemmas.Option.{slice_get-map}
use Rattle.std.proofs.lemmas.List.{length-map}

-- the last element
pub last_seen : {A B : Type 0} (f : A → B) (xs : List A) → slice_get (map f xs) (length (map f xs) - 1) ≡ option_map f (slice_get xs (length xs - 1))
last_seen f xs = ap (λ n. slice_get (map f xs) (n - 1)) (length-map xs f) ∙ slice_get-map f xs (length xs - 1)
