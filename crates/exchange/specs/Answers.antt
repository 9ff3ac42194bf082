-- What loading a file answers, and what is read of it.
use Rattle.std.specs.Prelude.{Ok, Err, Result}
use Rattle.exchange.specs.declared.refusal.Refusal.{Refusal}
use Rattle.exchange.specs.Checks.{Outcome, accepted, refused}
use Rattle.exchange.specs.Exchanges.{Exchange}

-- nothing more where the file is accepted, else the stop and its place
abbrev pub answer_to : Outcome → Result (Unit {0}) Refusal
answer_to (accepted x) = Ok tt
answer_to (refused stop place) = Err (record { stop = stop; place = place })

-- the file was read into this exchange, or refused
abbrev pub outcome_of : Result (Unit {0}) Refusal → Exchange → Outcome
outcome_of (Ok u) y = accepted y
outcome_of (Err e) y = refused e.stop e.place
