use Rattle.std.proofs.Common.{◌≡◌, length, drop, position, unwrap_or, not, rules, tests, ap, ◌∙◌}
use Rattle.std.proofs.lemmas.Iterator.{YieldsList-from_slice}
use Rattle.std.proofs.lemmas.Iterator.Search.{position_from_yields_List}
use Rattle.std.proofs.lemmas.List.{take_rest}
use Rattle.command.specs.Line.{blank}
use Rattle.command.proofs.Steps.{unblanked_is}
use Rattle.command.proofs.skip_blanks.Goals as goal

pub returns-clause-value : goal.returns-clause-value
returns-clause-value c =
    let text = c.args.text.now in
    let first : c.position.result ≡ position (λ b. not (blank b)) text = position_from_yields_List (λ b. not (blank b)) _ _ _ c.position.ensures.ran (YieldsList-from_slice text cc) (λ x b q k. search (rules, tests)) in
    take_rest text c.unwrap_or-blanks.result
    ∙ ap (λ n. drop n text) (c.unwrap_or-blanks.ensures ∙ ap (λ o. unwrap_or o (length text)) first) ∙ unblanked_is text
