use Rattle.listing.proofs.Example.{worked}
use Rattle.listing.proofs.exchanges.put_listing.Goals as goal

pub returns-clause-worked : goal.returns-clause-worked
returns-clause-worked c = worked
