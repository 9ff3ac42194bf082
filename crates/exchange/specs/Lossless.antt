-- Files and exchanges turn into each other without loss.
use Rattle.std.specs.Prelude.{◌≡◌, ℕ, List}
use Rattle.exchange.specs.Checks.{accepted, loads}
use Rattle.exchange.specs.Exchanges.{Exchange}
use Rattle.exchange.specs.Files.{file_bytes}
use Rattle.exchange.specs.Rules.{Fit}

-- the file of an exchange that keeps every rule loads as that exchange
abbrev pub Restores : Type 0
Restores = (x : Exchange) → Fit x → loads (file_bytes x) ≡ accepted x

-- a file loads as an exchange only where the exchange keeps every rule and the file is its file
abbrev pub Faithful : Type 0
Faithful = (file : List ℕ) (x : Exchange) → loads file ≡ accepted x → Fit x × (file_bytes x ≡ file)

-- both: a file is accepted exactly where it is the file of an exchange that keeps every rule, and it loads as that one
abbrev pub Lossless : Type 0
Lossless = Restores × Faithful
