use Rattle.attacker.specs.Known.{state_of}
use Rattle.attacker.proofs.Scanning.{Scan}
use Rattle.attacker.proofs.known.Known.open_locks.Given as goal

abbrev pub invariant-loop-i : goal.invariant-loop-i
invariant-loop-i l = Scan l.opened l.wider (state_of l.initial.self) l.i (state_of l.self)
