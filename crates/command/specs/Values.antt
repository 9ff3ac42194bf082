-- What digits stand for.
use Rattle.std.specs.Prelude.{ℕ, ◌+◌, ◌-◌, ◌*◌, ◌^◌, min, Bool, true, false, ◌&&◌, List, [], ◌∷◌, Some, None, Option, nat_le}
use Rattle.std.specs.Option.{option_map}
use Rattle.command.specs.Line.{blank, word_of, rest_of, unblanked}

-- b lies between low and high, or is one of them
abbrev pub within : ℕ → ℕ → ℕ → Bool
within low high b = nat_le low b && nat_le b high

-- the value of a decimal digit, 0 to 9 (codes 48 to 57)
abbrev pub decimal_digit : ℕ → Option ℕ
decimal_digit b = elim (within 48 57 b) [ true ↦ Some (b - 48) | false ↦ None ]

-- the value of a hexadecimal digit: a to f (97 to 102), A to F (65 to 70) or decimal
abbrev pub hex_digit : ℕ → Option ℕ
hex_digit b =
    elim (within 97 102 b) [
      | true ↦ Some (b - 97 + 10)
      | false ↦ elim (within 65 70 b) [
        | true ↦ Some (b - 65 + 10)
        | false ↦ decimal_digit b
      ]
    ]

-- the byte of two hexadecimal digits
abbrev pub hex_byte : ℕ → ℕ → Option ℕ
hex_byte high low =
    elim (hex_digit high) [ None ↦ None | Some h ↦ elim (hex_digit low) [ None ↦ None | Some l ↦ Some (h * 16 + l) ] ]

-- the bytes that a text writes in hexadecimal: two digits a byte, and blanks before, between and after the bytes
unfoldable pub hex_bytes : List ℕ → Option (List ℕ)
hex_bytes [] = Some []
hex_bytes (x ∷ []) = elim (blank x) [ true ↦ Some [] | false ↦ None ]
hex_bytes (x ∷ y ∷ ys) =
    elim (blank x) [
      | true ↦ hex_bytes (y ∷ ys)
      | false ↦ elim (hex_byte x y) [ None ↦ None | Some b ↦ option_map (λ bs. b ∷ bs) (hex_bytes ys) ]
    ]

-- the number that begins with n and goes on with these digits
unfoldable pub decimal_from : ℕ → List ℕ → Option ℕ
decimal_from n [] = Some n
decimal_from n (x ∷ xs) = elim (decimal_digit x) [ None ↦ None | Some d ↦ decimal_from (n * 10 + d) xs ]

-- the number that one or more decimal digits write
abbrev pub number_of : List ℕ → Option ℕ
number_of [] = None
number_of (x ∷ xs) = decimal_from 0 (x ∷ xs)

-- the largest usize stands for every number above it
abbrev pub capped : ℕ → ℕ
capped n = min n (2 ^ 64 - 1)

-- the one number in a text, with nothing but blanks around it
abbrev pub number_in : List ℕ → Option ℕ
number_in text =
    elim (unblanked (rest_of (unblanked text))) [ [] ↦ option_map capped (number_of (word_of (unblanked text))) | x ∷ xs ↦ None ]
