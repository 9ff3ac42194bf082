use Rattle.std.proofs.Common.{take}
use Rattle.std.specs.List.{flat_map}
use Rattle.exchange.specs.Writing.{Puts}
use Rattle.exchange.proofs.exchange.writing.Pen.parts.Given as goal

abbrev pub invariant-loop-part : goal.invariant-loop-part
invariant-loop-part g l = Puts l.initial.self (flat_map g.P.Part.written (take l.part-index l.parts)) l.self
