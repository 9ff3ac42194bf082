-- The atoms that declarations of the code declare.
use Rattle.std.specs.Prelude.{ℕ, List, map}
use Rattle.exchange.specs.declared.declaration.Declaration as code
use Rattle.exchange.specs.Exchanges.{Declaration}
use Rattle.exchange.specs.Labels.{label_text}

abbrev pub declaration_of : code.Declaration → Declaration
declaration_of d = record { atom = d.atom; label = label_text d.label }

abbrev pub atoms_in : List code.Declaration → List ℕ
atoms_in declarations = map (λ d. d.atom) (map declaration_of declarations)
