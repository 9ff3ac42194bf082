use Rattle.std.proofs.Common.{length}
use Rattle.attacker.proofs.known.Known.+absorb.Given as goal

abbrev pub decreases-absorb : goal.decreases-absorb
decreases-absorb l = length l.part.now
