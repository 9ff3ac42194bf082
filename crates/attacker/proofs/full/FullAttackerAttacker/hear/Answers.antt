use Rattle.std.proofs.Common.{◌≡◌, ◌<◌, [], ◌∷◌, ◌++◌, length, sym, ap, subst, arith, length-append}
use Rattle.std.proofs.lemmas.Bool.Decides.{nat_tests}
use Rattle.message.specs.Messages.{message_text}
use Rattle.attacker.specs.declared.full.Heard.{Heard}
use Rattle.attacker.specs.Known.{state_of, signs}
use Rattle.attacker.specs.Marks.{heard_texts, Remembers}
use Rattle.attacker.proofs.Learning.{message_tree}
use Rattle.attacker.proofs.Marking.{few_signs, length_heard, known_now, remembers_more}
use Rattle.attacker.proofs.full.FullAttackerAttacker.hear.Goals as goal

pub learn-requires : goal.learn-requires
learn-requires c =
    let tree = message_tree c.in_ok-message.message in
    let fits : length c.self.inside.heard < 128 = grind (arith, nat_tests, c.push.ensures.answer, c.in_ok-push.was) in
    record { room = omega (arith, (known_now c.self.inside.heard (state_of c.self.inside.known) c.self.invariant).roomy, length_heard c.self.inside.heard, few_signs tree.0 tree.1, ap signs tree.2) }

pub invariant_of-self-2 : goal.invariant_of-self-2
invariant_of-self-2 c =
    let heard = c.self.inside.heard in
    let known = state_of c.self.inside.known in
    let tree = message_tree c.in_ok-message.message in
    let next : Heard = record { message = c.in_ok-message.message; before = c.mark-before.result } in
    let before = known_now heard known c.self.invariant in
    let fits : length heard < 128 = grind (arith, nat_tests, c.push.ensures.answer, c.in_ok-push.was) in
    let pushed : c.push.new.self ≡ heard ++ next ∷ [] = grind (arith, nat_tests, c.push.ensures.list) in
    subst (λ l. Remembers l (state_of c.learn.new.self)) (sym pushed)
    (remembers_more heard known c.self.invariant next c.mark-before.ensures.value (state_of c.learn.new.self) c.learn.ensures.keeps.0 c.learn.ensures.keeps.1
    (record { decides = c.learn.ensures.knows (heard_texts heard) before.decides; roomy = omega (arith, c.learn.ensures.room, before.roomy, few_signs tree.0 tree.1, ap signs tree.2, length-append (heard_texts heard) (message_text c.in_ok-message.message ∷ [])) }))
