-- The exchange that a value of the code stands for.
use Rattle.std.specs.Prelude.{map, vec_items}
use Rattle.message.specs.Messages.{message_text}
use Rattle.exchange.specs.declared.exchange.Exchange as code
use Rattle.exchange.specs.Atoms.{declaration_of}
use Rattle.exchange.specs.Exchanges.{Exchange}
use Rattle.exchange.specs.Parts.{claim_of}
use Rattle.exchange.specs.Roles.{role_of}
use Rattle.exchange.specs.Sessions.{session_of}

abbrev pub exchange_of : code.Exchange → Exchange
exchange_of e = record {
  atoms = map declaration_of (vec_items e.atoms);
  opening = map message_text (vec_items e.opening);
  roles = map role_of (vec_items e.roles);
  sessions = map session_of (vec_items e.sessions);
  claims = map claim_of (vec_items e.claims);
}
