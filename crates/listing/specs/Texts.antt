-- The texts of atoms, variables and forms.
use Rattle.std.specs.Prelude.{ℕ, ◌%◌, true, false, List, [], ◌∷◌, ◌++◌, Some, None, codes, decimal, Option, ◌==◌}
use Rattle.message.specs.declared.kind.Kind.{Kind}
use Rattle.message.specs.declared.kind.Symbol.{Symbol}
use Rattle.message.specs.declared.kind.Symbol.TheVariants.{Atom, Variable, Join, Lock, Unused}
use Rattle.message.specs.Bytes.{symbol}
use Rattle.message.specs.Trees.{Tree, atom, variable, joined, locked, form_of}
use Rattle.exchange.specs.Exchanges.{Declaration}
use Rattle.listing.specs.Words.{variable_word}

-- an atom is shown by the label of its declaration; one that is not declared by nothing
abbrev pub label_of : List Declaration → ℕ → List ℕ
label_of [] a = []
label_of (d ∷ ds) a = elim (a == d.atom) [ true ↦ d.label | false ↦ label_of ds a ]

-- a variable is shown by a question mark, its kind and its number in the kind: each kind has sixteen
abbrev pub variable_text : Kind → ℕ → List ℕ
variable_text kind v = codes "?" ++ (variable_word kind ++ decimal (v % 16))

abbrev pub symbol_text : List Declaration → Symbol → ℕ → List ℕ
symbol_text ds (Atom kind) b = label_of ds b
symbol_text ds (Variable kind) b = variable_text kind b
symbol_text ds Join b = []
symbol_text ds Lock b = []
symbol_text ds Unused b = []

-- a byte that is an atom or a variable
abbrev pub byte_text : List Declaration → ℕ → List ℕ
byte_text ds b = symbol_text ds (symbol b) b

-- a form: (x,y) where x and y are joined, {x}k where x is locked under k
abbrev pub tree_text : List Declaration → Tree → List ℕ
tree_text ds (atom b) = byte_text ds b
tree_text ds (variable b) = byte_text ds b
tree_text ds (joined x y) = codes "(" ++ (tree_text ds x ++ (codes "," ++ (tree_text ds y ++ codes ")")))
tree_text ds (locked k x) = codes "{" ++ (tree_text ds x ++ (codes "}" ++ byte_text ds k))

abbrev pub read_text : List Declaration → Option Tree → List ℕ
read_text ds (Some t) = tree_text ds t
read_text ds None = []

-- the form that the bytes are
abbrev pub form_text : List Declaration → List ℕ → List ℕ
form_text ds bs = read_text ds (form_of bs)
