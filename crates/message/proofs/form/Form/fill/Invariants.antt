use Rattle.message.proofs.FillLoop.{FilledTo}
use Rattle.message.proofs.form.Form.fill.Given as goal

abbrev pub invariant-loop-i : goal.invariant-loop-i
invariant-loop-i l = FilledTo l.self l.values l.memory l.i
