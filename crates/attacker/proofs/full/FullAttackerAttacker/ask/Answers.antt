use Rattle.std.proofs.Common.{◌≡◌, true, Ok, sym, ap, ◌∙◌, rules}
use Rattle.message.specs.Messages.{message_text}
use Rattle.message.specs.Trees.{is_message, message_of}
use Rattle.attacker.specs.Derivation.{derives}
use Rattle.attacker.specs.Known.{state_of}
use Rattle.attacker.specs.Deciding.{decides_right}
use Rattle.attacker.proofs.Absorbing.{message_write}
use Rattle.attacker.proofs.Learning.{message_tree}
use Rattle.attacker.proofs.Marking.{known_now}
use Rattle.attacker.proofs.Telling.{same_decision}
use Rattle.attacker.proofs.full.FullAttackerAttacker.ask.Goals as goal

pub returns : goal.returns
returns c =
    let m = c.args.message.now in
    let message = c.in_ok-message.message in
    let tree = message_tree message in
    let closed-form : is_message m ≡ true = search rules in
    let same : message_text message ≡ m = search rules in
    let known = known_now c.self.inside.heard (state_of c.self.inside.known) c.self.invariant in
    let right : c.can_build.result ≡ derives c.args.self.now m =
    c.can_build.ensures.builds tree.0 tree.1 (cc tree.2)
    ∙ same_decision _ (message_text message) tree.0 (sym (ap message_of tree.2) ∙ message_write tree.0 tree.1) _ known.decides
    ∙ (λ i. derives (c.self.view_is i) (same i)) in
    record {
      answer = search rules;
      derived = λ e. (decides_right c.args.self.now m).0 (sym right ∙ (cc));
      complete = λ can. ap Ok (right ∙ (decides_right c.args.self.now m).1 can);
    }
