-- The listing that is written out, computed. Assumes nothing.
use Rattle.std.proofs.Common.{refl}
use Rattle.std.specs.Fmt.{digits}
use Rattle.message.specs.Bytes.{is_locking}
use Rattle.message.specs.Trees.{reads}
use Rattle.listing.specs.Worked.{Worked}

pub worked : Worked
unfolding reads is_locking digits
worked = refl
