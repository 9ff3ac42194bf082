-- Filling: each variable of a form is replaced by an atom of its kind.
use Rattle.std.specs.Prelude.{ℕ, Bool, true, false, List, [], ◌∷◌, Some, None, Option, ◌==◌}
use Rattle.std.specs.Option.{option_map}
use Rattle.message.specs.declared.kind.Kind.{Kind}
use Rattle.message.specs.declared.kind.Kind.TheVariants.{Name, Nonce, Data, SharedKey, PairKey}
use Rattle.message.specs.declared.kind.Symbol.{Symbol}
use Rattle.message.specs.declared.kind.Symbol.TheVariants.{Atom, Variable, Join, Lock, Unused}
use Rattle.message.specs.Bytes.{symbol, is_variable}
use Rattle.message.specs.Trees.{Tree, atom, variable, joined, locked, and_then}

-- the kinds in their order
abbrev pub rank : Kind → ℕ
rank Name = 0
rank Nonce = 1
rank Data = 2
rank SharedKey = 3
rank PairKey = 4

abbrev pub same_kind : Kind → Kind → Bool
same_kind j k = rank j == rank k

-- an atom of the kind k
abbrev pub is_atom_of : Kind → Symbol → Bool
is_atom_of k (Atom j) = same_kind k j
is_atom_of k (Variable j) = false
is_atom_of k Join = false
is_atom_of k Lock = false
is_atom_of k Unused = false

-- a variable, and an atom of its kind
abbrev pub can_stand_for : Symbol → Symbol → Bool
can_stand_for (Variable k) s = is_atom_of k s
can_stand_for (Atom k) s = false
can_stand_for Join s = false
can_stand_for Lock s = false
can_stand_for Unused s = false

-- v is a variable, and a is an atom of its kind
unfoldable pub of_kind : ℕ → ℕ → Bool
of_kind v a = can_stand_for (symbol v) (symbol a)

-- the variable v has no value, or an atom of its kind
abbrev pub fitting : ℕ → Option ℕ → Bool
fitting v None = true
fitting v (Some a) = of_kind v a

-- what a byte is replaced by: a variable by its value, if it has one, and any other byte by itself
abbrev pub filled_byte : (ℕ → Option ℕ) → ℕ → Option ℕ
filled_byte values b = elim (is_variable b) [ true ↦ values b | false ↦ Some b ]

-- the bytes with each variable replaced; nothing where one has no value
abbrev pub filled : (ℕ → Option ℕ) → List ℕ → Option (List ℕ)
filled values [] = Some []
filled values (b ∷ bs) = and_then (filled_byte values b) (λ c. option_map (λ cs. c ∷ cs) (filled values bs))

-- the form with each variable replaced, also one that locks; nothing where one has no value
abbrev pub fill_tree : (ℕ → Option ℕ) → Tree → Option Tree
fill_tree values (atom b) = Some (atom b)
fill_tree values (variable b) = option_map atom (values b)
fill_tree values (joined x y) = and_then (fill_tree values x) (λ u. option_map (joined u) (fill_tree values y))
fill_tree values (locked k x) = and_then (filled_byte values k) (λ j. option_map (locked j) (fill_tree values x))
