-- What the code read, as bytes.
use Rattle.std.specs.Prelude.{ℕ, ◌<◌, ◌≤◌, List, [], ◌∷◌, ◌++◌, length, Some, None, Ok, Err, Option, Result, nat_le}
use Rattle.std.specs.Borrow.{Bor}
use Rattle.exchange.specs.declared.claim.Claim as code-claim
use Rattle.exchange.specs.declared.session.Binding as code-binding
use Rattle.exchange.specs.declared.session.Session as code
use Rattle.message.specs.declared.closed.Message.{Message}
use Rattle.message.specs.declared.form.Form.{Form}
use Rattle.message.specs.declared.stop.Stop.{Stop}
use Rattle.message.specs.declared.stop.Stop.TheVariants.{LimitPassed}
use Rattle.message.specs.Forms.{text}
use Rattle.message.specs.Messages.{message_text}
use Rattle.exchange.specs.declared.tag.Tag.{Tag}
use Rattle.exchange.specs.Checks.{unless, last_role, with_step, with_claim, Item, declares, opens, role, does, runs, claims, finish, Turn}
use Rattle.exchange.specs.Exchanges.{Step, Binding, Exchange}
use Rattle.exchange.specs.Parts.{claim_of}
use Rattle.exchange.specs.Rules.{role_variables}
use Rattle.exchange.specs.Sessions.{binding_of, starts_in}

abbrev pub read_form : Result Form Stop → Result (List ℕ) Stop
read_form (Ok form) = Ok (text form)
read_form (Err stop) = Err stop

abbrev pub read_message : Result Message Stop → Result (List ℕ) Stop
read_message (Ok m) = Ok (message_text m)
read_message (Err stop) = Err stop

-- the exchange with the claim that was read, or the refusal
abbrev pub with_read : Exchange → Result (code-claim.Claim Message) Stop → Result Exchange Stop
with_read x (Ok c) = Ok (with_claim x (claim_of c))
with_read x (Err stop) = Err stop

abbrev pub read_binding : Result code-binding.Binding Stop → Result Binding Stop
read_binding (Ok b) = Ok (binding_of b)
read_binding (Err stop) = Err stop

abbrev pub read_starts : Result code.Session Stop → Result (List Binding) Stop
read_starts (Ok s) = Ok (starts_in s)
read_starts (Err stop) = Err stop

-- a part was added, and the exchange is this one now; or the refusal
abbrev pub added : {A : Type 0} → Result A Stop → Exchange → Result Exchange Stop
added (Ok x) y = Ok y
added (Err stop) y = Err stop

-- the last role has one more step whose form was read, unless it has too many variables then
abbrev pub push_step : Exchange → Step → Result Exchange Stop
push_step x s = unless (nat_le (length (role_variables (last_role x ++ s ∷ []))) 8) LimitPassed (Ok (with_step x s))

-- the place that a field's part needs is there: its number passes no limit, and its value is not too long
abbrev pub Ready : Exchange → Item → Type 0
Ready x (declares a label) = length label ≤ 12
Ready x (opens m) = length x.opening < 32
Ready x role = length x.roles < 4
Ready x (does s) = (1 ≤ length x.roles) × (length (last_role x) < 12)
Ready x (runs r bs) = length x.sessions < 8
Ready x (claims c) = length x.claims < 8
Ready x finish = Unit {0}

-- the tag and the value of a field that was cut off
abbrev pub cut_seen : Option (ℕ × Bor (List ℕ)) → Option (ℕ × List ℕ)
cut_seen None = None
cut_seen (Some f) = Some (f.0, f.1.now)

-- a field was taken: its tag and its size, and the exchange that there is now; or the refusal
abbrev pub turned : Result (Tag × ℕ) Stop → Exchange → Result Turn Stop
turned (Ok t) y = Ok (record { tag = t.0; exchange = y; size = t.1 })
turned (Err stop) y = Err stop
