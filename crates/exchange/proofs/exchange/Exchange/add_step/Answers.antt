use Rattle.std.proofs.Common.{Err, ap, ◌∙◌}
use Rattle.std.proofs.lemmas.Result.{err_from_is_err_and}
use Rattle.exchange.specs.Fields.{step_seen}
use Rattle.exchange.specs.Views.{exchange_of}
use Rattle.exchange.proofs.Adding.{form_seen, step_unread, added_err}
use Rattle.exchange.proofs.exchange.Exchange.add_step.Goals as goal

pub returns-in_err-form : goal.returns-in_err-form
returns-in_err-form c =
    let x = exchange_of c.args.self.now in
    let stop = c.in_err-form.field-0.0 in
    let p = err_from_is_err_and c.from_residual.result c.from_residual.ensures.1 in
    record { added = added_err c.from_residual.result stop x (p.1 ∙ ap Err p.2) ∙ step_unread x (step_seen c.args.step) _ stop (ap (λ b. b.now) c.form.ensures.value ∙ form_seen (λ b. b.now) c.args.step) c.in_err-form.ensures.value }
