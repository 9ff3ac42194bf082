-- What a session of the code stands for.
use Rattle.std.specs.Prelude.{List, map}
use Rattle.message.specs.Rows.{items_in}
use Rattle.exchange.specs.declared.session.Binding as code-binding
use Rattle.exchange.specs.declared.session.Session as code
use Rattle.exchange.specs.Exchanges.{Binding, Session}

abbrev pub binding_of : code-binding.Binding → Binding
binding_of b = record { variable = b.variable; atom = b.atom }

abbrev pub starts_in : code.Session → List Binding
starts_in s = map binding_of (items_in s.bindings)

abbrev pub session_of : code.Session → Session
session_of s = record { role = s.role; starts = starts_in s }
