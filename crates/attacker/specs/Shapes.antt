-- What a message is made of.
use Rattle.std.specs.Prelude.{◌≡◌, ℕ, List, ◌∷◌, ◌++◌, drop, Some, None, Option}
use Rattle.message.specs.Trees.{Tree, atom, joined, locked, write}
use Rattle.attacker.specs.declared.shape.Shape.{Shape}
use Rattle.attacker.specs.declared.shape.Shape.TheVariants.{Atom, Joined, Locked}

-- the shape is cut out of these bytes; what stands behind an atom is left out
abbrev pub IsCutOf : Shape → List ℕ → Type 0
IsCutOf (Atom a) bs = bs ≡ a ∷ drop 1 bs
IsCutOf (Joined left right) bs = bs ≡ 0xF0 ∷ (left.now ++ right.now)
IsCutOf (Locked key inside) bs = bs ≡ 0xF1 ∷ key ∷ inside.now

-- the tree has that shape
abbrev pub HasShape : Tree → Option Shape → Type 0
HasShape t None = ⊥
HasShape t (Some (Atom a)) = t ≡ atom a
HasShape t (Some (Joined left right)) = (x : Tree) × (y : Tree) × (t ≡ joined x y) × (write x ≡ left.now) × (write y ≡ right.now)
HasShape t (Some (Locked key inside)) = (x : Tree) × (t ≡ locked key x) × (write x ≡ inside.now)
