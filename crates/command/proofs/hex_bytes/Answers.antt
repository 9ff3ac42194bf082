use Rattle.std.proofs.Common.{◌≡◌, ◌==◌, false, length, vec_items, sym, ap, ◌∙◌, arith, ltb-false}
use Rattle.std.proofs.lemmas.Bool.Decides.{nat_tests}
use Rattle.std.specs.Option.{option_map}
use Rattle.std.specs.Bool.{then_some}
use Rattle.command.proofs.Steps.{unblanked_front, hex_begins, hex_wrong, hex_more, hex_last}
use Rattle.command.proofs.hex_bytes.Goals as goal

pub loop-left-init : goal.loop-left-init
loop-left-init c = (
  rw c.new-bytes.ensures.items (hex_begins c.args.text.now _ c.skip_blanks-left.ensures.value),
  rw c.skip_blanks-left.ensures.value (unblanked_front c.args.text.now),
)

pub returns-in_default-hex_byte : goal.returns-in_default-hex_byte
returns-in_default-hex_byte c =
    record { value = hex_wrong (vec_items c.loop-left.bytes) c.loop-left.left.now (omega (arith, ltb-false)) c.loop-left.invariant.1 c.in_default-hex_byte.ensures.value ∙ c.loop-left.invariant.0 }

pub loop-left-preserved : goal.loop-left-preserved
loop-left-preserved c = (
  rw c.in_ok-push.ensures.items (hex_more (vec_items c.loop-left.bytes) c.loop-left.left.now _ c.in-Some.byte (omega (arith, ltb-false)) c.loop-left.invariant.1 c.in-Some.ensures.value c.skip_blanks-left-in-len2-up.ensures.value ∙ c.loop-left.invariant.0),
  rw c.skip_blanks-left-in-len2-up.ensures.value (unblanked_front _),
)

pub returns-in-empty : goal.returns-in-empty
returns-in-empty c =
    let none : length c.loop-left.left.now ≡ 0 = omega (arith, c.in-empty.len_below) in
    record { value = ap (λ n. option_map vec_items (then_some (n == 0) c.loop-left.bytes)) (sym none) ∙ hex_last c.loop-left.bytes c.loop-left.left.now (omega (arith, c.in_default.len_below)) c.loop-left.invariant.1 ∙ c.loop-left.invariant.0 }

pub returns-in_default-left : goal.returns-in_default-left
returns-in_default-left c =
    let some : (length c.loop-left.left.now == 0) ≡ false = grind (arith, nat_tests, c.in_default-left.len_at_least) in
    record { value = ap (λ b. option_map vec_items (then_some b c.loop-left.bytes)) (sym some) ∙ hex_last c.loop-left.bytes c.loop-left.left.now (omega (arith, c.in_default.len_below)) c.loop-left.invariant.1 ∙ c.loop-left.invariant.0 }
