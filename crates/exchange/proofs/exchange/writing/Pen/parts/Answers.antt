use Rattle.std.proofs.Common.{length, ap, arith}
use Rattle.std.proofs.lemmas.List.Folds.{length-flat_map-take}
use Rattle.exchange.proofs.Putting.{puts_more}
use Rattle.exchange.proofs.exchange.writing.Pen.parts.Goals as goal

pub put-requires : goal.put-requires
put-requires g c =
    record { room = omega (arith, c.requires.room, c.loop-part.invariant.size, c.loop-part.invariant.long, length-flat_map-take g.P.Part.written c.args.parts.now c.loop-part.part-index c.part-item.result c.loop-part-test.true, ap (λ x. length (g.P.Part.written x)) c.part-item.is) }

pub loop-part-preserved : goal.loop-part-preserved
loop-part-preserved g c =
    puts_more g.P.Part.written c.args.parts.now c.loop-part.part-index c.part-item.result c.loop-part-test.true c.part-item.is (omega (arith, c.requires.room)) c.loop-part.invariant c.put.ensures.puts
