-- A byte that is noted in a row that has room. Assumes nothing.
use Rattle.std.proofs.Common.{◌≡◌, ℕ, ◌<◌, ◌≤◌, length, Ok, Err, Result, refl, arith}
use Rattle.std.specs.Result.{MatchResult, IsOk}
use Rattle.message.specs.declared.row.Full.{Full}
use Rattle.message.specs.declared.row.Row.{Row}
use Rattle.message.specs.Rows.{items_in}
use Rattle.message.specs.Variables.{noted}

pub taken : {N : ℕ} (row more : Row ℕ N) (b : ℕ) (r : Result (Unit {0}) Full) → length (noted (items_in row) b) ≤ N
    → MatchResult r (λ _. (length (noted (items_in row) b) ≤ N) × (items_in more ≡ noted (items_in row) b)) (λ _. (N < length (noted (items_in row) b)) × (more ≡ row))
    → IsOk r × (items_in more ≡ noted (items_in row) b)
taken row more b (Ok u) room said = (refl, said.1)
taken row more b (Err e) room said = absurd (omega (arith, said.0))
