-- The bytes so far, and then those of what is left, are the bytes of the text; what is left begins with no blank.
use Rattle.std.proofs.Common.{◌≡◌, ◌++◌, length, slice_index, false, vec_items}
use Rattle.std.specs.Option.{option_map}
use Rattle.command.specs.Line.{blank}
use Rattle.command.specs.Values.{hex_bytes}
use Rattle.command.proofs.hex_bytes.Given as goal

abbrev pub invariant-loop-left : goal.invariant-loop-left
invariant-loop-left l =
    (option_map (λ bs. vec_items l.bytes ++ bs) (hex_bytes l.left) ≡ hex_bytes l.text)
    × (blank (slice_index l.left 0) ≡ false)

abbrev pub decreases-loop-left : goal.decreases-loop-left
decreases-loop-left l = length l.left
