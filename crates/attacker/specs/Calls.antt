-- What each call on an attacker answers, and which messages it has heard afterwards.
use Rattle.std.specs.Prelude.{ℕ, Bool, cond, ◌&&◌, List, [], ◌∷◌, ◌++◌, length, Ok, Err, Result, nat_le, nat_lt}
use Rattle.message.specs.declared.stop.Stop.{Stop}
use Rattle.message.specs.declared.stop.Stop.TheVariants.{NotClosedForm, HeardEnough, AboveCount}
use Rattle.message.specs.Trees.{is_message}

-- one entry more is refused where there are 128, and else put at the end
abbrev pub push_answer : {A : Type 0} → List A → Result (Unit {0}) Stop
push_answer heard = cond (nat_lt (length heard) 128) (Ok tt) (Err HeardEnough)

abbrev pub pushed : {A : Type 0} → List A → A → List A
pushed heard entry = cond (nat_lt (length heard) 128) (heard ++ entry ∷ []) heard

-- hearing refuses what is no closed form, then a message past the hundred and twenty-eighth
abbrev pub hear_answer : List (List ℕ) → List ℕ → Result (Unit {0}) Stop
hear_answer heard m = cond (is_message m) (cond (nat_lt (length heard) 128) (Ok tt) (Err HeardEnough)) (Err NotClosedForm)

-- a message that is not refused is put at the end; a refusal leaves the list
abbrev pub heard_after : List (List ℕ) → List ℕ → List (List ℕ)
heard_after heard m = cond (is_message m && nat_lt (length heard) 128) (heard ++ m ∷ []) heard

-- asking refuses what is no closed form, and else says whether the message can be made
abbrev pub ask_answer : (List (List ℕ) → List ℕ → Bool) → List (List ℕ) → List ℕ → Result Bool Stop
ask_answer makes heard m = cond (is_message m) (Ok (makes heard m)) (Err NotClosedForm)

-- falling back to more messages than are heard is refused; the first n are kept, which are all where it is refused
abbrev pub back_answer : {A : Type 0} → List A → ℕ → Result (Unit {0}) Stop
back_answer heard n = cond (nat_le n (length heard)) (Ok tt) (Err AboveCount)
