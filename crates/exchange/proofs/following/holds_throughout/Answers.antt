use Rattle.std.proofs.Common.{ℕ, ◌-◌, map, take, ◌∙◌, rules}
use borrow.Author.Tests.{tests}
use Rattle.std.proofs.lemmas.Iterator.{YieldsList-from_slice}
use Rattle.std.proofs.lemmas.Iterator.Consumers.{YieldsList-from_enumerate}
use Rattle.std.proofs.lemmas.Iterator.Search.{all_from_yields_List}
use Rattle.message.specs.declared.form.Form.{Form}
use Rattle.exchange.specs.declared.step.Step.{Step}
use Rattle.exchange.specs.Parts.{step_of}
use Rattle.exchange.specs.Sessions.{starts_in}
use Rattle.exchange.proofs.Loops.{throughout_lines}
use Rattle.exchange.proofs.following.holds_throughout.Goals as goal

pub returns : goal.returns
returns g c = record {
  value = λ rule asks.
      let steps = c.steps-steps.result.now in
      let starts = starts_in c.args.session.now in
      let test = λ (p : ℕ × Step Form). rule starts (map step_of (take (p.0 - 0) steps)) (step_of p.1) in
      all_from_yields_List test _ _ c.all.result c.all.ensures.ran (YieldsList-from_enumerate (YieldsList-from_slice steps cc) (cc)) (λ x b q k. search (rules, tests, asks))
      ∙ throughout_lines rule starts steps _ c.steps-steps.ensures.value;
}
