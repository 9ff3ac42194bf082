-- Words and numbers.
use Rattle.std.specs.Prelude.{ℕ, ◌+◌, ◌/◌, ◌%◌, true, false, List, [], ◌∷◌, ◌++◌, codes, nat_lt}
use Rattle.message.specs.declared.kind.Kind.{Kind}
use Rattle.message.specs.declared.kind.Kind.TheVariants.{Name, Nonce, Data, SharedKey, PairKey}

-- the end of a line
abbrev pub newline : List ℕ
newline = 0x0A ∷ []

-- the kind of a declared atom
abbrev pub kind_word : Kind → List ℕ
kind_word Name = codes "name"
kind_word Nonce = codes "nonce"
kind_word Data = codes "data"
kind_word SharedKey = codes "shared key"
kind_word PairKey = codes "pair key"

-- the kind of a variable
abbrev pub variable_word : Kind → List ℕ
variable_word Name = codes "name"
variable_word Nonce = codes "nonce"
variable_word Data = codes "data"
variable_word SharedKey = codes "shared"
variable_word PairKey = codes "pair"

-- 0 to 9, then A to F
abbrev pub hex_digit : ℕ → ℕ
hex_digit n = elim (nat_lt n 10) [ true ↦ 48 + n | false ↦ 55 + n ]

-- a byte in two hexadecimal digits
abbrev pub hex : ℕ → List ℕ
hex b = hex_digit (b / 16) ∷ hex_digit (b % 16) ∷ []

-- the texts of all parts in a row, each made with the part's number; the first has number n
abbrev pub numbered : {A : Type 0} → (ℕ → A → List ℕ) → ℕ → List A → List ℕ
numbered part n [] = []
numbered part n (x ∷ xs) = part n x ++ numbered part (n + 1) xs
