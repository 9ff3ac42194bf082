-- What two attackers that have heard the same answer to a line, and what they have heard afterwards.
use Rattle.std.specs.Prelude.{ℕ, ◌-◌, Bool, true, false, List, length, take, Ok, Err, Result, ◌==◌, slice_index}
use Rattle.message.specs.declared.stop.Stop.{Stop}
use Rattle.attacker.specs.Calls.{hear_answer, heard_after, ask_answer, back_answer}
use Rattle.command.specs.Saying.{Saying, hear, ask, back, nothing, unknown}
use Rattle.can_make.specs.declared.answer.Answer.{Answer}
use Rattle.can_make.specs.declared.answer.Answer.TheVariants.{Heard, Makes, Refused, NotUnderstood, Nothing}

-- the line without a line feed (10) at its very end
abbrev pub unfed : List ℕ → List ℕ
unfed line = elim (slice_index line (length line - 1) == 10) [ true ↦ take (length line - 1) line | false ↦ line ]

-- how many messages are heard now, or the refusal
abbrev pub counted : Result (Unit {0}) Stop → List (List ℕ) → Answer
counted (Ok _) heard = Heard (length heard)
counted (Err stop) heard = Refused stop

-- whether each of the two can make the message, or the refusal; what one refuses the other does too
abbrev pub compared : Result Bool Stop → Result Bool Stop → Answer
compared (Ok full) (Ok repeater) = Makes full repeater
compared (Ok full) (Err stop) = Refused stop
compared (Err stop) r = Refused stop

-- what is answered to a line of that number, and what both have heard afterwards
abbrev pub turn : (List (List ℕ) → List ℕ → Bool) → (List (List ℕ) → List ℕ → Bool) → List (List ℕ) → Saying → ℕ → Answer × List (List ℕ)
turn full repeater heard (hear m) line = (counted (hear_answer heard m) (heard_after heard m), heard_after heard m)
turn full repeater heard (ask m) line = (compared (ask_answer full heard m) (ask_answer repeater heard m), heard)
turn full repeater heard (back n) line = (counted (back_answer heard n) (take n heard), take n heard)
turn full repeater heard nothing line = (Nothing, heard)
turn full repeater heard unknown line = (NotUnderstood line, heard)
