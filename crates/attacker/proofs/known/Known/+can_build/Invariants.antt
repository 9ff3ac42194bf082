use Rattle.std.proofs.Common.{length}
use Rattle.attacker.proofs.known.Known.+can_build.Given as goal

abbrev pub decreases-can_build : goal.decreases-can_build
decreases-can_build l = length l.part.now
