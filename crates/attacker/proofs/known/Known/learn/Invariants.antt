use Rattle.std.proofs.Common.{◌-◌, ◌^◌}
use Rattle.attacker.specs.Atoms.{key_bits}
use Rattle.attacker.specs.Known.{state_of}
use Rattle.attacker.proofs.Learning.{Opening}
use Rattle.attacker.proofs.known.Known.learn.Given as goal

abbrev pub invariant-loop-opened : goal.invariant-loop-opened
invariant-loop-opened l = Opening l.initial.opened (state_of l.initial.self) l.opened (state_of l.self)

abbrev pub decreases-loop-opened : goal.decreases-loop-opened
decreases-loop-opened l = 2 ^ 32 - key_bits l.opened
