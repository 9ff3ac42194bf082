-- The variables of a form, each once, in order of first occurrence.
use Rattle.std.specs.Prelude.{◌≡◌, ℕ, suc, ◌<◌, Bool, true, false, not, ◌&&◌, ◌||◌, List, [], ◌∷◌, ◌++◌, length, ◌==◌, ◌≢◌, slice_index}
use Rattle.message.specs.declared.variables.Variables.{Variables}
use Rattle.message.specs.Bytes.{is_variable}
use Rattle.message.specs.Rows.{items_in}

-- the names that a value of the code holds
abbrev pub names_in : Variables → List ℕ
names_in variables = items_in variables.names

-- b occurs in the bytes
abbrev pub among : ℕ → List ℕ → Bool
among b [] = false
among b (c ∷ cs) = b == c || among b cs

-- b is a variable that is not yet found
abbrev pub is_new : List ℕ → ℕ → Bool
is_new found b = is_variable b && not (among b found)

-- those found, and b after them if it is new
abbrev pub noted : List ℕ → ℕ → List ℕ
noted found b = elim (is_new found b) [ true ↦ found ++ b ∷ [] | false ↦ found ]

-- those found, and the new ones of the bytes after them
abbrev pub firsts_from : List ℕ → List ℕ → List ℕ
firsts_from found [] = found
firsts_from found (b ∷ bs) = firsts_from (noted found b) bs

-- the variables of the bytes, each where it first occurs
abbrev pub firsts : List ℕ → List ℕ
firsts bs = firsts_from [] bs

-- the place at which b first occurs; the number of bytes where it does not
abbrev pub first_at : ℕ → List ℕ → ℕ
first_at b [] = 0
first_at b (c ∷ cs) = elim (b == c) [ true ↦ 0 | false ↦ suc (first_at b cs) ]

-- the names are the variables of the bytes in order of first occurrence:
-- every variable of the bytes is a name, every name is a variable of the bytes, no name occurs twice,
-- and of two names the first is the one that occurs first in the bytes
pub record InOrder (names bs : List ℕ) : Type 0 where
  pub all : (b : ℕ) → is_variable b ≡ true → among b bs ≡ true → among b names ≡ true
  pub only : (b : ℕ) → among b names ≡ true → (is_variable b ≡ true) × (among b bs ≡ true)
  pub once : (i j : ℕ) → i < j → j < length names → slice_index names i ≢ slice_index names j
  pub order : (i j : ℕ) → i < j → j < length names → first_at (slice_index names i) bs < first_at (slice_index names j) bs
