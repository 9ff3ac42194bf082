-- How a line is cut: its end, its first word and what follows.
use Rattle.std.specs.Prelude.{ℕ, suc, ◌-◌, Bool, true, false, ◌||◌, List, [], ◌∷◌, length, take, drop, ◌==◌, slice_index}

-- a space (32) or a tab (9)
abbrev pub blank : ℕ → Bool
blank b = b == 32 || b == 9

-- the line without a carriage return (13) at its very end
abbrev pub unreturned : List ℕ → List ℕ
unreturned line =
    elim (slice_index line (length line - 1) == 13) [ true ↦ take (length line - 1) line | false ↦ line ]

-- how many bytes stand before the first blank
unfoldable pub word_length : List ℕ → ℕ
word_length [] = 0
word_length (x ∷ xs) = elim (blank x) [ true ↦ 0 | false ↦ suc (word_length xs) ]

-- the bytes before the first blank
abbrev pub word_of : List ℕ → List ℕ
word_of text = take (word_length text) text

-- the first blank and all after it
abbrev pub rest_of : List ℕ → List ℕ
rest_of text = drop (word_length text) text

-- the text from its first byte on that is no blank
unfoldable pub unblanked : List ℕ → List ℕ
unblanked [] = []
unblanked (x ∷ xs) = elim (blank x) [ true ↦ unblanked xs | false ↦ x ∷ xs ]
