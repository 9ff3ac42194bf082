-- What the full attacker keeps of the messages that it has heard: the atoms that come out of them, and the texts of
-- the joined and locked parts that do.
use Rattle.std.specs.Prelude.{◌≡◌, ℕ, ◌+◌, ◌≤◌, Bool, true, false, cond, not, ◌&&◌, ◌||◌, List, [], ◌∷◌, ◌++◌, length, Some, ◌==◌, nat_le}
use Rattle.message.specs.Bytes.{inverse_of}
use Rattle.message.specs.Trees.{Tree, atom, variable, joined, locked, proper, write, size, closed, message_of, Fits}
use Rattle.attacker.specs.declared.atoms.Atoms.{Atoms}
use Rattle.attacker.specs.declared.known.Known.{Known}
use Rattle.attacker.specs.declared.known.TheConstants.{MOST_PARTS}
use Rattle.attacker.specs.Atoms.{within}
use Rattle.attacker.specs.Derivation.{Derivable, opens, parts, stands}
use Rattle.attacker.specs.Laws.{has}
use Rattle.attacker.specs.Texts.{texts}

-- the atoms, and the texts of the joined and locked parts
pub record State : Type 0 where
  pub atoms : Atoms
  pub kept : List (List ℕ)

abbrev pub state_of : Known → State
state_of known = record { atoms = known.atoms; kept = texts known.parts.items }

-- an atom that is known, and nothing else
abbrev pub atom_known : Atoms → Tree → Bool
atom_known atoms (atom b) = within atoms b
atom_known atoms (variable b) = false
atom_known atoms (joined x y) = false
atom_known atoms (locked k x) = false

-- a form of at most 24 bytes with no variable
abbrev pub fitting : Tree → Bool
fitting t = proper t && (nat_le (size t) 24 && closed (write t))

-- an atom of the set, or a part whose text is kept
abbrev pub known_by : State → Tree → Bool
known_by known (atom b) = within known.atoms b
known_by known (variable b) = false
known_by known (joined x y) = fitting (joined x y) && has known.kept (write (joined x y))
known_by known (locked k x) = fitting (locked k x) && has known.kept (write (locked k x))

-- the texts of the joined and locked ones among the trees
abbrev pub composites : List Tree → List (List ℕ)
composites [] = []
composites (atom b ∷ ts) = composites ts
composites (variable b ∷ ts) = composites ts
composites (joined x y ∷ ts) = write (joined x y) ∷ composites ts
composites (locked k x ∷ ts) = write (locked k x) ∷ composites ts

-- how many joined and locked parts a text has: as many as it has bytes F0 and F1
abbrev pub sign : ℕ → ℕ
sign b = cond (b == 0xF0 || b == 0xF1) 1 0

abbrev pub signs : List ℕ → ℕ
signs [] = 0
signs (b ∷ bs) = sign b + signs bs

-- the room that a kept text takes: a lock that is not open holds all its parts yet
abbrev pub weight : Atoms → List ℕ → ℕ
weight opened [] = 1
weight opened (b ∷ []) = 1
weight opened (b ∷ k ∷ bs) = cond (b == 0xF1) (cond (opens (atom_known opened) k) 1 (signs (b ∷ k ∷ bs))) 1

abbrev pub weights : Atoms → List (List ℕ) → ℕ
weights opened [] = 0
weights opened (m ∷ ms) = weight opened m + weights opened ms

-- so many more parts find room
abbrev pub HasRoom : State → ℕ → Type 0
HasRoom state more = length state.kept + more ≤ MOST_PARTS

-- a form with no variable
pub record ClosedForm (t : Tree) : Type 0 where
  pub fits : Fits t
  pub fixed : closed (write t) ≡ true

-- the atoms afterwards are those before and those among the trees
abbrev pub With : Atoms → List Tree → Atoms → Type 0
With before ts after = (b : ℕ) → within after b ≡ (within before b || stands ts (atom b))

-- what taking a message apart adds: the texts of the parts that come out, in order, and the atoms among them
pub record Takes (opened : Atoms) (t : Tree) (old new : State) : Type 0 where
  pub keeps : new.kept ≡ old.kept ++ composites (parts (atom_known opened) t)
  pub learns : With old.atoms (parts (atom_known opened) t) new.atoms

-- the same of bytes, where they are a message
abbrev pub Absorbs : Atoms → List ℕ → State → State → Type 0
Absorbs opened bs old new = (t : Tree) → ClosedForm t → write t ≡ bs → Takes opened t old new

-- the locks of the list that an opened atom opens are open: what they lock is known
abbrev pub Open : Atoms → List (List ℕ) → (Tree → Bool) → Type 0
Open opened locks known = (k j : ℕ) (x : Tree) → ClosedForm (locked k x) → has locks (write (locked k x)) ≡ true → inverse_of k ≡ Some j → within opened j ≡ true → known x ≡ true

-- one set of atoms has all of another
abbrev pub Inside : Atoms → Atoms → Type 0
Inside fewer more = (b : ℕ) → within fewer b ≡ true → within more b ≡ true

-- what is known is justified by the rules, has what was heard, and is closed under parting
pub record Parted (heard : List (List ℕ)) (known : Tree → Bool) : Type 0 where
  pub justified : (t : Tree) → known t ≡ true → Derivable heard t
  pub hears : (m : List ℕ) (t : Tree) → has heard m ≡ true → message_of m ≡ Some t → known t ≡ true
  pub parts_left : (x y : Tree) → known (joined x y) ≡ true → known x ≡ true
  pub parts_right : (x y : Tree) → known (joined x y) ≡ true → known y ≡ true

-- a lock that the wider set opens and the other does not
abbrev pub opens_now : Atoms → Atoms → List ℕ → Bool
opens_now opened wider [] = false
opens_now opened wider (b ∷ []) = false
opens_now opened wider (b ∷ k ∷ bs) = b == 0xF1 && (opens (atom_known wider) k && not (opens (atom_known opened) k))

-- Opening the locks that the wider set opens: the parts kept before stand first, and what was parted and open before is
-- parted now and open to the wider set.
pub record Opens (opened wider : Atoms) (old new : State) : Type 0 where
  pub fresh : List (List ℕ)
  pub after : new.kept ≡ old.kept ++ fresh
  pub knows : (heard : List (List ℕ)) → Parted heard (known_by old) → Open opened old.kept (known_by old) → Inside wider old.atoms → Parted heard (known_by new) × Open wider new.kept (known_by new)
