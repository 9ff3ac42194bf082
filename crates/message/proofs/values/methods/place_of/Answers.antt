use Rattle.std.proofs.Common.{sym, arith}
use Rattle.message.proofs.Atoms.{variable_place}
use Rattle.message.proofs.values.methods.place_of.Goals as goal

pub overflow_sub-variable : goal.overflow_sub-variable
overflow_sub-variable c = (variable_place c.args.variable (sym c.if-not-is_variable.ensures.value)).0

pub returns : goal.returns
returns c =
    let is = sym c.if-not-is_variable.ensures.value in
    record { place = (is, c.from.ensures, omega (arith, c.from.ensures, variable_place c.args.variable is)) }
