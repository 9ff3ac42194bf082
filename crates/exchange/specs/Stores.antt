-- What a store holds, and what its calls answer and leave.
use Rattle.std.specs.Prelude.{ℕ, true, false, List, ◌++◌, length, drop, Some, None, Ok, Err, Option, Result, nat_le}
use Rattle.std.specs.Borrow.{Bor}
use Rattle.std.specs.Option.{option_map}
use Rattle.message.specs.declared.stop.Stop.{Stop}
use Rattle.message.specs.declared.stop.Stop.TheVariants.{BufferTooSmall, NoExchange}
use Rattle.exchange.specs.declared.exchange.Exchange as code
use Rattle.exchange.specs.declared.store.Store.{Store}
use Rattle.exchange.specs.Checks.{Outcome, accepted, refused}
use Rattle.exchange.specs.Exchanges.{Exchange}
use Rattle.exchange.specs.Files.{file_bytes}
use Rattle.exchange.specs.Views.{exchange_of}

-- the exchange that is loaded, if any
abbrev pub held : Store → Option Exchange
held s = option_map (λ _. exchange_of s.exchange) s.size

-- a file that is accepted takes the place of what was held; one that is refused leaves it
abbrev pub held_after : Option Exchange → Outcome → Option Exchange
held_after old (accepted x) = Some x
held_after old (refused stop place) = old

-- a reference to an exchange of the code, as what it stands for
abbrev pub lent : Bor code.Exchange → Exchange
lent e = exchange_of e.now

-- writing needs an exchange, and then room for its file
abbrev pub file_answer : List ℕ → List ℕ → Result ℕ Stop
file_answer bytes out = elim (nat_le (length bytes) (length out)) [ true ↦ Ok (length bytes) | false ↦ Err BufferTooSmall ]

abbrev pub write_answer : Option Exchange → List ℕ → Result ℕ Stop
write_answer None out = Err NoExchange
write_answer (Some x) out = file_answer (file_bytes x) out

-- the file stands at the front of the buffer and the rest stays; where it is refused all stays
abbrev pub file_written : List ℕ → List ℕ → List ℕ
file_written bytes out = elim (nat_le (length bytes) (length out)) [ true ↦ bytes ++ drop (length bytes) out | false ↦ out ]

abbrev pub written : Option Exchange → List ℕ → List ℕ
written None out = out
written (Some x) out = file_written (file_bytes x) out
