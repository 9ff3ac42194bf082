-- Which messages follow from a list of heard messages by the rules, and how that is decided.
use Rattle.std.specs.Prelude.{◌≡◌, ℕ, zero, suc, ◌+◌, Bool, true, false, ◌&&◌, ◌||◌, List, [], ◌∷◌, ◌++◌, length, Some, None, ◌==◌}
use Rattle.message.specs.Bytes.{is_key, inverse_of}
use Rattle.message.specs.Trees.{Tree, atom, variable, joined, locked, size, message_of}
use Rattle.attacker.specs.Laws.{has}

-- The rules of derivation: what was heard; two messages joined; either half of a joined one; a message locked
-- with a key that can be derived; what is locked, with the inverse key. Nothing bounds what stands in between.
pub data Derivable (heard : List (List ℕ)) : Tree → Type 0 where
  heard_whole : (m : List ℕ) {t : Tree} → has heard m ≡ true → message_of m ≡ Some t → Derivable heard t
  pairing : {x y : Tree} → Derivable heard x → Derivable heard y → Derivable heard (joined x y)
  left_half : {x y : Tree} → Derivable heard (joined x y) → Derivable heard x
  right_half : {x y : Tree} → Derivable heard (joined x y) → Derivable heard y
  encryption : {k : ℕ} {x : Tree} → is_key k ≡ true → Derivable heard (atom k) → Derivable heard x → Derivable heard (locked k x)
  decryption : {k j : ℕ} {x : Tree} → inverse_of k ≡ Some j → Derivable heard (locked k x) → Derivable heard (atom j) → Derivable heard x

-- the bytes are a message that the rules derive
abbrev pub CanMake : List (List ℕ) → List ℕ → Type 0
CanMake heard m = (t : Tree) × (message_of m ≡ Some t) × Derivable heard t

-- the same tree
abbrev pub same_tree : Tree → Tree → Bool
same_tree (atom a) (atom b) = a == b
same_tree (atom a) (variable b) = false
same_tree (atom a) (joined x y) = false
same_tree (atom a) (locked k x) = false
same_tree (variable a) (atom b) = false
same_tree (variable a) (variable b) = a == b
same_tree (variable a) (joined x y) = false
same_tree (variable a) (locked k x) = false
same_tree (joined u v) (atom b) = false
same_tree (joined u v) (variable b) = false
same_tree (joined u v) (joined x y) = same_tree u x && same_tree v y
same_tree (joined u v) (locked k x) = false
same_tree (locked j u) (atom b) = false
same_tree (locked j u) (variable b) = false
same_tree (locked j u) (joined x y) = false
same_tree (locked j u) (locked k x) = j == k && same_tree u x

-- the tree stands in the list
abbrev pub stands : List Tree → Tree → Bool
stands [] t = false
stands (x ∷ xs) t = same_tree x t || stands xs t

-- what locks with k can be opened with what is known
abbrev pub opens : (Tree → Bool) → ℕ → Bool
opens known k = elim (inverse_of k) [ None ↦ false | Some j ↦ known (atom j) ]

-- the parts that come out of a message by parting, and by unlocking with the keys that are known
abbrev pub parts : (Tree → Bool) → Tree → List Tree
parts known (atom b) = atom b ∷ []
parts known (variable b) = variable b ∷ []
parts known (joined x y) = joined x y ∷ (parts known x ++ parts known y)
parts known (locked k x) = locked k x ∷ elim (opens known k) [ true ↦ parts known x | false ↦ [] ]

abbrev pub all_parts : (Tree → Bool) → List Tree → List Tree
all_parts known [] = []
all_parts known (t ∷ ts) = parts known t ++ all_parts known ts

-- take parts out with the keys found so far, until a round finds no further part
abbrev pub closure : ℕ → List Tree → List Tree → List Tree
closure zero ts found = found
closure (suc n) ts found =
    let more : List Tree = all_parts (stands found) ts in
    elim (length more == length found) [ true ↦ found | false ↦ closure n ts more ]

-- what is known can be joined, and locked with a key that is known
abbrev pub builds : (Tree → Bool) → Tree → Bool
builds known (atom b) = known (atom b)
builds known (variable b) = known (variable b)
builds known (joined x y) = known (joined x y) || (builds known x && builds known y)
builds known (locked k x) = known (locked k x) || ((is_key k && known (atom k)) && builds known x)

-- the messages of the list, as trees
abbrev pub messages : List (List ℕ) → List Tree
messages [] = []
messages (m ∷ ms) = elim (message_of m) [ None ↦ messages ms | Some t ↦ t ∷ messages ms ]

abbrev pub total_size : List Tree → ℕ
total_size [] = 0
total_size (t ∷ ts) = size t + total_size ts

-- every part that can be taken out of the heard messages; there are no more rounds than bytes
abbrev pub known_parts : List (List ℕ) → List Tree
known_parts heard = let ts : List Tree = messages heard in closure (total_size ts) ts (all_parts (λ t. false) ts)

-- the full attacker can make the message: its relation, decided
unfoldable pub derives : List (List ℕ) → List ℕ → Bool
derives heard m = elim (message_of m) [ None ↦ false | Some t ↦ builds (stands (known_parts heard)) t ]

-- a test of what is known that the rules justify, and that is closed under parting and unlocking
pub record Knowledge (heard : List (List ℕ)) (known : Tree → Bool) : Type 0 where
  pub justified : (t : Tree) → known t ≡ true → Derivable heard t
  pub hears : (m : List ℕ) (t : Tree) → has heard m ≡ true → message_of m ≡ Some t → known t ≡ true
  pub parts_left : (x y : Tree) → known (joined x y) ≡ true → known x ≡ true
  pub parts_right : (x y : Tree) → known (joined x y) ≡ true → known y ≡ true
  pub unlocks : (k j : ℕ) (x : Tree) → inverse_of k ≡ Some j → known (locked k x) ≡ true → known (atom j) ≡ true → known x ≡ true

-- such a test decides derivability
abbrev pub Decided : Type 0
Decided = (heard : List (List ℕ)) (known : Tree → Bool) → Knowledge heard known → (t : Tree) → (builds known t ≡ true → Derivable heard t) × (Derivable heard t → builds known t ≡ true)

-- the decision is right, both ways
abbrev pub Decides : Type 0
Decides = (heard : List (List ℕ)) (m : List ℕ) → (derives heard m ≡ true → CanMake heard m) × (CanMake heard m → derives heard m ≡ true)
