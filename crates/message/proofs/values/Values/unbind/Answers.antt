use Rattle.std.proofs.Common.{None}
use Rattle.message.proofs.Binding.{set_there}
use Rattle.message.proofs.values.Values.unbind.Goals as goal

pub returns-in-Some-clause-others : goal.returns-in-Some-clause-others
returns-in-Some-clause-others c =
    let values = c.args.self.now in
    let is = c.in-Some.ensures.place in
    set_there values.atoms values.whole c.args.variable c.in-Some.place is.0 is.1 None
