-- The atoms that stand for variables.
use Rattle.std.specs.Prelude.{ℕ, ◌-◌, true, false, List, None, Option, slice_index_or}
use Rattle.message.specs.declared.values.Values.{Values}
use Rattle.message.specs.Bytes.{is_variable}

-- what the list has for a variable, of which 80 is the first; nothing for a byte that is no variable
abbrev pub value_at : List (Option ℕ) → ℕ → Option ℕ
value_at atoms v = elim (is_variable v) [ true ↦ slice_index_or atoms (v - 0x80) None | false ↦ None ]

-- the value of a variable, if it has one
abbrev pub value_in : Values → ℕ → Option ℕ
value_in values v = value_at values.atoms v
