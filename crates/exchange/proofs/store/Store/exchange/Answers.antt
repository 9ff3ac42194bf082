use Rattle.std.proofs.Common.{rules}
use Rattle.exchange.proofs.Loads.{lent_fit}
use Rattle.exchange.proofs.store.Store.exchange.Goals as goal

pub returns-clause-fit : goal.returns-clause-fit
returns-clause-fit c = lent_fit c.args.self.now c.map.result (search rules)
