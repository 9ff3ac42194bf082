-- The bytes that a form or a message stands for.
use Rattle.std.specs.Prelude.{◌≡◌, ℕ, List}
use Rattle.message.specs.declared.form.Form.{Form}
use Rattle.message.specs.Rows.{items_in}

-- the bytes of a form
abbrev pub text : Form → List ℕ
text form = items_in form.bytes

-- forms with the same bytes are the same value
abbrev pub OneForm : Type 0
OneForm = (a b : Form) → text a ≡ text b → a ≡ b
