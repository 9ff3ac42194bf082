use Rattle.std.proofs.Common.{rules}
use Rattle.std.proofs.lemmas.List.{take-map}
use Rattle.attacker.proofs.repeater.RepeaterAttacker.fall_back.Goals as goal

pub returns-clause-list : goal.returns-clause-list
returns-clause-list c = search (rules, take-map)
