use Rattle.std.proofs.Common.{◌∙◌, rules}
use borrow.Author.Tests.{tests}
use Rattle.std.proofs.lemmas.Iterator.{YieldsList-from_slice}
use Rattle.std.proofs.lemmas.Iterator.Search.{any_from_yields_List}
use Rattle.message.specs.Variables.{among}
use Rattle.exchange.specs.Parts.{step_of}
use Rattle.exchange.specs.Rules.{received_in}
use Rattle.exchange.proofs.Loops.{any_joined}
use Rattle.exchange.proofs.following.is_received.Goals as goal

pub returns : goal.returns
returns c =
    let v = c.args.variable in
    let steps = c.args.steps.now in
    record {
      value =
          any_from_yields_List (λ s. among v (received_in (step_of s))) _ _ c.any.result c.any.ensures.ran (YieldsList-from_slice steps cc) (λ x b q k. search (rules, tests))
          ∙ any_joined step_of received_in v steps;
    }
