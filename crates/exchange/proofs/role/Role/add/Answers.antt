use Rattle.std.proofs.Common.{◌≡◌, [], ◌∷◌, ◌++◌, length, sym, ap, ◌∙◌, arith, rules}
use Rattle.std.proofs.lemmas.Bool.{lt-leb}
use Rattle.message.specs.Forms.{text}
use Rattle.message.specs.Rows.{items_in}
use Rattle.exchange.specs.Names.{names_in}
use Rattle.exchange.specs.Parts.{step_of}
use Rattle.exchange.specs.Roles.{role_of}
use Rattle.exchange.specs.Rules.{role_variables}
use Rattle.exchange.proofs.Adding.{form_seen, push_seen}
use Rattle.exchange.proofs.Noting.{role_noted}
use Rattle.exchange.proofs.Refusing.{handed_on}
use Rattle.exchange.proofs.role.Role.add.Goals as goal

pub returns-in_err-note_all : goal.returns-in_err-note_all
returns-in_err-note_all c =
    let self = c.args.self.now in
    let step = c.args.step in
    let form = c.bytes.ensures.value ∙ (ap text c.form.ensures.value ∙ form_seen text step) in
    let more = role_noted (names_in self.names) c.bytes.result.now (role_of self) (step_of step) self.named form in
    let told = c.in_err-note_all.ensures.noted in
    record { cases = handed_on c.from_residual.result _ _ _ c.from_residual.ensures.1 (lt-leb (length (role_variables (role_of self ++ step_of step ∷ []))) 8 (omega (arith, told.0, ap length more)), told.1) }

pub invariant_of-self : goal.invariant_of-self
invariant_of-self c =
    let self = c.args.self.now in
    let step = c.args.step in
    let form = c.bytes.ensures.value ∙ (ap text c.form.ensures.value ∙ form_seen text step) in
    let more = role_noted (names_in self.names) c.bytes.result.now (role_of self) (step_of step) self.named form in
    let items : items_in c.push.new.self ≡ items_in self.steps ++ step ∷ [] = search rules in
    record { named = c.in_ok-note_all.ensures.noted.1 ∙ (more ∙ ap role_variables (sym (push_seen step_of (items_in self.steps) _ step items))) }
