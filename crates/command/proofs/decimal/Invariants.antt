-- The number so far, and the digits that are left, give the number.
use Rattle.std.proofs.Common.{◌≡◌, ◌^◌, ◌<◌, drop}
use Rattle.std.specs.Option.{option_map}
use Rattle.command.specs.Values.{decimal_from, number_of, capped}
use Rattle.command.proofs.decimal.Given as goal

abbrev pub invariant-loop-b : goal.invariant-loop-b
invariant-loop-b l =
    (option_map capped (decimal_from l.n (drop l.b-index l.digits)) ≡ option_map capped (number_of l.digits))
    × (l.n < 2 ^ 64)
