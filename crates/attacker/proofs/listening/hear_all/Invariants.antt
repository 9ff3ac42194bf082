use Rattle.std.proofs.Common.{◌≡◌, ◌++◌, take}
use Rattle.attacker.specs.Texts.{texts}
use Rattle.attacker.proofs.listening.hear_all.Given as goal

abbrev pub invariant-loop-message : goal.invariant-loop-message
invariant-loop-message g l =
    (g.A.Attacker.heard l.attacker ≡ g.A.Attacker.heard l.initial.attacker ++ texts (take l.message-index l.messages))
    × (g.A.Attacker.makes l.attacker ≡ g.A.Attacker.makes l.initial.attacker)
