use Rattle.std.proofs.Common.{◌+◌, ◌++◌, length, sym, arith}
use Rattle.std.proofs.lemmas.List.{length-append}
use Rattle.exchange.specs.Checks.{tag_byte}
use Rattle.exchange.proofs.Putting.{puts_both, puts_field}
use Rattle.exchange.proofs.exchange.writing.Pen.field.Goals as goal

pub returns : goal.returns
returns c =
    let head = c.args.head.now in
    let tail = c.args.tail.now in
    let value = puts_both head tail (omega (arith, c.requires.room, c.start.ensures.puts.size, c.start.ensures.puts.long)) c.bytes.ensures.puts c.bytes-2.ensures.puts in
    record { puts = puts_field (tag_byte c.args.tag) (head ++ tail) (length head + length tail) (omega (arith, c.requires.room)) (sym (length-append head tail)) c.start.ensures.puts value }
