-- The steps of a role of the code.
use Rattle.std.specs.Prelude.{List, map}
use Rattle.message.specs.Rows.{items_in}
use Rattle.exchange.specs.declared.role.Role.{Role}
use Rattle.exchange.specs.Exchanges.{Step}
use Rattle.exchange.specs.Parts.{step_of}

abbrev pub role_of : Role → List Step
role_of role = map step_of (items_in role.steps)
