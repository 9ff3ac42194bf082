-- The bytes of each message of a list.
use Rattle.std.specs.Prelude.{ℕ, List, map}
use Rattle.message.specs.declared.closed.Message.{Message}
use Rattle.message.specs.Messages.{message_text}

abbrev pub texts : List Message → List (List ℕ)
texts messages = map message_text messages
