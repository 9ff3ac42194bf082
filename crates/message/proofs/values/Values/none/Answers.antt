use Rattle.std.proofs.Common.{◌+◌, ◌-◌, refl, ap}
use Rattle.message.specs.Bytes.{is_variable}
use Rattle.message.specs.Filling.{fitting}
use Rattle.message.proofs.Atoms.{none_at, chosen_none}
use Rattle.message.proofs.values.Values.none.Goals as goal

pub invariant_of-result : goal.invariant_of-result
invariant_of-result c = record { whole = refl; fit = λ i. ap (fitting (0x80 + i)) (none_at 80 i) }

pub returns : goal.returns
returns c = record { empty = λ v. chosen_none (is_variable v) (none_at 80 (v - 0x80)) }
