-- What the steps and claims of the code stand for.
use Rattle.std.specs.Prelude.{ℕ, List}
use Rattle.message.specs.declared.closed.Message.{Message}
use Rattle.message.specs.declared.form.Form.{Form}
use Rattle.message.specs.Forms.{text}
use Rattle.message.specs.Messages.{message_text}
use Rattle.exchange.specs.declared.claim.Claim as code-claim
use Rattle.exchange.specs.declared.claim.Claim.TheVariants.{Secret, SessionSecret, Matched, MatchedOnce}
use Rattle.exchange.specs.declared.step.Step as code
use Rattle.exchange.specs.declared.step.Step.TheVariants.{Send, Receive, Begin, End}
use Rattle.exchange.specs.Exchanges.{Step, sends, receives, begins, ends, Claim, secret, session_secret, matched, matched_once}

-- a step, given the bytes of its form
abbrev pub step_by : {F : Type 0} → (F → List ℕ) → code.Step F → Step
step_by bytes (Send f) = sends (bytes f)
step_by bytes (Receive f) = receives (bytes f)
step_by bytes (Begin mark f) = begins mark (bytes f)
step_by bytes (End mark f) = ends mark (bytes f)

abbrev pub step_of : code.Step Form → Step
step_of s = step_by text s

-- the form of a step of the code
abbrev pub step_form : {F : Type 0} → code.Step F → F
step_form (Send f) = f
step_form (Receive f) = f
step_form (Begin mark f) = f
step_form (End mark f) = f

-- the step with another form
abbrev pub with_form : {F G : Type 0} → code.Step F → G → code.Step G
with_form (Send f) g = Send g
with_form (Receive f) g = Receive g
with_form (Begin mark f) g = Begin mark g
with_form (End mark f) g = End mark g

-- a claim, given the bytes of its message
abbrev pub claim_by : {M : Type 0} → (M → List ℕ) → code-claim.Claim M → Claim
claim_by bytes (Secret m) = secret (bytes m)
claim_by bytes (SessionSecret s v) = session_secret s v
claim_by bytes (Matched mark) = matched mark
claim_by bytes (MatchedOnce mark) = matched_once mark

abbrev pub claim_of : code-claim.Claim Message → Claim
claim_of c = claim_by message_text c
