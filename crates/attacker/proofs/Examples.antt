-- The worked questions, computed. Assumes nothing.
use Rattle.std.proofs.Common.{refl}
use Rattle.message.specs.Bytes.{is_variable, is_locking, is_key}
use Rattle.message.specs.Trees.{reads}
use Rattle.attacker.specs.Derivation.{derives}
use Rattle.attacker.specs.Worked.{Worked}

pub worked : Worked
unfolding derives reads is_variable is_locking is_key
worked = refl
