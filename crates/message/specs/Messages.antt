-- The bytes that a message stands for.
use Rattle.std.specs.Prelude.{◌≡◌, ℕ, List}
use Rattle.message.specs.declared.closed.Message.{Message}
use Rattle.message.specs.Forms.{text}

abbrev pub message_text : Message → List ℕ
message_text m = text m.form

-- messages with the same bytes are the same value
abbrev pub OneMessage : Type 0
OneMessage = (a b : Message) → message_text a ≡ message_text b → a ≡ b
