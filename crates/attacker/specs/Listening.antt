-- Hearing several messages, and asking as if they were heard.
use Rattle.std.specs.Prelude.{ℕ, ◌+◌, Bool, cond, List, ◌++◌, length, Ok, Err, Result, nat_le}
use Rattle.message.specs.declared.stop.Stop.{Stop}
use Rattle.message.specs.declared.stop.Stop.TheVariants.{HeardEnough}

-- no more than 128 are heard then
abbrev pub fits : List (List ℕ) → List (List ℕ) → Bool
fits heard more = nat_le (length heard + length more) 128

abbrev pub all_answer : List (List ℕ) → List (List ℕ) → Result (Unit {0}) Stop
all_answer heard more = cond (fits heard more) (Ok tt) (Err HeardEnough)

abbrev pub all_heard : List (List ℕ) → List (List ℕ) → List (List ℕ)
all_heard heard more = cond (fits heard more) (heard ++ more) heard

-- whether the question could be made if the others were heard too
abbrev pub would_make : (List (List ℕ) → List ℕ → Bool) → List (List ℕ) → List (List ℕ) → List ℕ → Result Bool Stop
would_make makes heard more question = cond (fits heard more) (Ok (makes (heard ++ more) question)) (Err HeardEnough)
