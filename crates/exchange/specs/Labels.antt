-- The bytes of a label.
use Rattle.std.specs.Prelude.{ℕ, List}
use Rattle.message.specs.Rows.{items_in}
use Rattle.exchange.specs.declared.label.Label.{Label}

abbrev pub label_text : Label → List ℕ
label_text l = items_in l.bytes
