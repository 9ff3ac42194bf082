-- What a row holds.
use Rattle.std.specs.Prelude.{ℕ, List, take, drop}
use Rattle.message.specs.declared.row.Row.{Row}

-- the items, in their order
abbrev pub items_in : {T : Type 0} → {N : ℕ} → Row T N → List T
items_in row = take row.count row.memory

-- what stands in the memory after them
abbrev pub rest_of : {T : Type 0} → {N : ℕ} → Row T N → List T
rest_of row = drop row.count row.memory
