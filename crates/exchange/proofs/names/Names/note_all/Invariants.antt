use Rattle.std.proofs.Common.{◌≡◌, drop}
use Rattle.message.specs.Variables.{firsts_from}
use Rattle.exchange.specs.Names.{names_in}
use Rattle.exchange.proofs.names.Names.note_all.Given as goal

abbrev pub invariant-loop-byte : goal.invariant-loop-byte
invariant-loop-byte l = firsts_from (names_in l.self) (drop l.byte-index l.bytes) ≡ firsts_from (names_in l.initial.self) l.bytes
