-- What a field of the code says.
use Rattle.std.specs.Prelude.{ℕ, List, Ok, Err, Result}
use Rattle.std.specs.Borrow.{Bor}
use Rattle.message.specs.declared.stop.Stop.{Stop}
use Rattle.exchange.specs.declared.claim.Claim as code-claim
use Rattle.exchange.specs.declared.field.Field as code
use Rattle.exchange.specs.declared.field.Field.TheVariants.{Atom, Opening, Role, Step, Session, Claim, Finish}
use Rattle.exchange.specs.declared.step.Step as code-step
use Rattle.exchange.specs.Checks.{Item, declares, opens, role, does, runs, claims, finish}
use Rattle.exchange.specs.Exchanges as model
use Rattle.exchange.specs.Parts.{step_by, claim_by}

-- a step whose form is still to be read
abbrev pub step_seen : code-step.Step (Bor (List ℕ)) → model.Step
step_seen s = step_by (λ form. form.now) s

-- a claim whose message is still to be read
abbrev pub claim_seen : code-claim.Claim (Bor (List ℕ)) → model.Claim
claim_seen c = claim_by (λ message. message.now) c

abbrev pub item_seen : code.Field → Item
item_seen (Atom a label) = declares a label.now
item_seen (Opening m) = opens m.now
item_seen Role = role
item_seen (Step s) = does (step_seen s)
item_seen (Session r pairs) = runs r pairs.bytes.now
item_seen (Claim c) = claims (claim_seen c)
item_seen Finish = finish

-- what was read says, or the refusal
abbrev pub step_read : Result (code-step.Step (Bor (List ℕ))) Stop → Result Item Stop
step_read (Ok s) = Ok (does (step_seen s))
step_read (Err stop) = Err stop

abbrev pub claim_read : Result (code-claim.Claim (Bor (List ℕ))) Stop → Result Item Stop
claim_read (Ok c) = Ok (claims (claim_seen c))
claim_read (Err stop) = Err stop

abbrev pub seen : Result code.Field Stop → Result Item Stop
seen (Ok f) = Ok (item_seen f)
seen (Err stop) = Err stop
