use Rattle.exchange.proofs.Loads.{held_again}
use Rattle.exchange.proofs.store.Store.write.Goals as goal

pub returns-then-size-out-clause-loads_again : goal.returns-then-size-out-clause-loads_again
returns-then-size-out-clause-loads_again c = held_again c.args.self.now

pub returns-clause-loads_again : goal.returns-clause-loads_again
returns-clause-loads_again c = held_again c.args.self.now
