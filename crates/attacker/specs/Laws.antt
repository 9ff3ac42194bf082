-- Membership in a list of messages, and the two laws of an attacker's relation.
use Rattle.std.specs.Prelude.{◌≡◌, ℕ, Bool, true, false, ◌||◌, List, [], ◌∷◌}
use Rattle.std.specs.Str.{bytes_eq}
use Rattle.message.specs.Trees.{is_message}

-- the message stands in the list
abbrev pub has : List (List ℕ) → List ℕ → Bool
has [] m = false
has (x ∷ xs) m = bytes_eq x m || has xs m

-- every message of one list stands in another
abbrev pub Within : List (List ℕ) → List (List ℕ) → Type 0
Within xs ys = (m : List ℕ) → has xs m ≡ true → has ys m ≡ true

-- first law: whoever has heard all that another heard can make all that the other can
abbrev pub Monotone : (List (List ℕ) → List ℕ → Bool) → Type 0
Monotone makes = (xs ys : List (List ℕ)) → Within xs ys → (m : List ℕ) → makes xs m ≡ true → makes ys m ≡ true

-- second law: what was heard can be said again
abbrev pub Own : (List (List ℕ) → List ℕ → Bool) → Type 0
Own makes = (xs : List (List ℕ)) (m : List ℕ) → is_message m ≡ true → has xs m ≡ true → makes xs m ≡ true
