use Rattle.std.proofs.Common.{None, get_or, sym, ap, ◌∙◌}
use Rattle.message.specs.Filling.{fitting}
use Rattle.message.proofs.Binding.{value_known, value_fits}
use Rattle.message.proofs.values.Values.value.Goals as goal

pub returns-clause-fits : goal.returns-clause-fits
returns-clause-fits c =
    let v = c.args.variable in
    let values = c.args.self.now in
    let is = c.in_ok-place_of.ensures.place in
    let known = ap (λ i. get_or values.atoms i None) is.1 ∙ sym (value_known values.atoms v is.0) in
    ap (fitting v) known ∙ value_fits values.atoms values.fit v
