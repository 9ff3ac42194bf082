use Rattle.std.proofs.Common.{◌≡◌, ◌+◌, ◌*◌, [], length}
use Rattle.exchange.specs.Checks.{bindings_of}
use Rattle.exchange.specs.Roles.{role_of}
use Rattle.exchange.specs.Rules.{atoms_of}
use Rattle.exchange.specs.Sessions.{starts_in}
use Rattle.exchange.specs.Views.{exchange_of}
use Rattle.exchange.proofs.exchange.Exchange.read_bindings.Given as goal

abbrev pub invariant-loop-left : goal.invariant-loop-left
invariant-loop-left l =
    (bindings_of (atoms_of (exchange_of l.self)) (role_of l.role) (starts_in l.session) l.left ≡ bindings_of (atoms_of (exchange_of l.self)) (role_of l.role) [] l.pairs.bytes.now)
    × (l.session.role ≡ l.number)
    × (2 * length (starts_in l.session) + length l.left ≡ length l.pairs.bytes.now)

abbrev pub decreases-loop-left : goal.decreases-loop-left
decreases-loop-left l = length l.left
