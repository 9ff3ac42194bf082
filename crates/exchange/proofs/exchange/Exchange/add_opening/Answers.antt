use Rattle.std.proofs.Common.{vec_items}
use Rattle.message.specs.Messages.{message_text}
use Rattle.exchange.specs.Views.{exchange_of}
use Rattle.exchange.proofs.Adding.{push_seen, opening_added}
use Rattle.exchange.proofs.exchange.Exchange.add_opening.Goals as goal

pub returns : goal.returns
returns c =
    let self = c.args.self.now in
    record { added = opening_added (exchange_of self) c.args.bytes.now (message_text c.in_ok-message.message) _ c.in_ok-message.ensures.value (push_seen message_text (vec_items self.opening) (vec_items c.push_reserved.new.self) c.in_ok-message.message c.push_reserved.ensures.items) }
