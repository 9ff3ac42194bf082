use Rattle.std.proofs.Common.{◌≡◌, length, position, unwrap_or, rules, tests, ap, ◌∙◌}
use Rattle.std.proofs.lemmas.Iterator.{YieldsList-from_slice}
use Rattle.std.proofs.lemmas.Iterator.Search.{position_from_yields_List}
use Rattle.command.specs.Line.{blank}
use Rattle.command.proofs.Steps.{word_length_is}
use Rattle.command.proofs.word_length.Goals as goal

pub returns-clause-value : goal.returns-clause-value
returns-clause-value c =
    let text = c.args.text.now in
    let first : c.position.result ≡ position blank text = position_from_yields_List blank _ _ _ c.position.ensures.ran (YieldsList-from_slice text cc) (λ x b q k. search (rules, tests)) in
    c.unwrap_or.ensures ∙ ap (λ o. unwrap_or o (length text)) first ∙ word_length_is text
