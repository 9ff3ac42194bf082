use Rattle.std.proofs.Common.{◌≡◌, ℕ, ◌||◌, List, [], ◌∷◌, refl, ap, ◌∙◌, rules, tests}
use Rattle.std.proofs.lemmas.Iterator.{YieldsList-from_slice}
use Rattle.std.proofs.lemmas.Iterator.Search.{any_from_yields_List}
use Rattle.std.specs.List.{list_any}
use Rattle.std.specs.Str.{bytes_eq}
use Rattle.message.specs.declared.closed.Message.{Message}
use Rattle.message.specs.Messages.{message_text}
use Rattle.attacker.specs.Laws.{has}
use Rattle.attacker.specs.Texts.{texts}
use Rattle.attacker.proofs.among.stands_among.Goals as goal

-- a message stands in the list where its text is one of the texts
any_text : (messages : List Message) (bytes : List ℕ) → list_any (λ m. bytes_eq (message_text m) bytes) messages ≡ has (texts messages) bytes
any_text [] bytes = refl
any_text (m ∷ ms) bytes = ap (λ b. bytes_eq (message_text m) bytes || b) (any_text ms bytes)

pub returns : goal.returns
returns c =
    let any : c.any.result ≡ list_any (λ m. bytes_eq (message_text m) c.args.bytes.now) c.args.messages.now =
    any_from_yields_List _ _ _ _ c.any.ensures.ran (YieldsList-from_slice c.args.messages.now (cc)) (λ x b q k. search (rules, tests)) in
    record { value = any ∙ any_text c.args.messages.now c.args.bytes.now }
