use Rattle.std.proofs.Common.{sym}
use Rattle.exchange.specs.Fields.{item_seen}
use Rattle.exchange.specs.Views.{exchange_of}
use Rattle.exchange.proofs.Readying as readying
use Rattle.exchange.proofs.exchange.Exchange.take_field.Goals as goal

pub accept-requires : goal.accept-requires
accept-requires c = record { ready = readying.ready (exchange_of c.args.self.now) c.args.tag c.args.value.now (item_seen c.in_ok-field.field) (sym c.if-not-is_due.ensures.value) (sym c.if-not-has_room.ensures.value) (sym c.in_ok-field.ensures.value) }
