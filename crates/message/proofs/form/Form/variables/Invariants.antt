use Rattle.message.specs.Forms.{text}
use Rattle.message.proofs.FirstsLoop.{FoundTo}
use Rattle.message.proofs.form.Form.variables.Given as goal

abbrev pub invariant-loop-byte : goal.invariant-loop-byte
invariant-loop-byte l = FoundTo (text l.self) l.names l.byte-index
