use Rattle.std.proofs.Common.{length}
use Rattle.message.proofs.reader.+form_length.Given as goal

abbrev pub decreases-form_length : goal.decreases-form_length
decreases-form_length l = length l.bytes.now
