-- The variables that the code has noted.
use Rattle.std.specs.Prelude.{ℕ, List}
use Rattle.message.specs.Rows.{items_in}
use Rattle.exchange.specs.declared.names.Names.{Names}

abbrev pub names_in : Names → List ℕ
names_in names = items_in names.list
