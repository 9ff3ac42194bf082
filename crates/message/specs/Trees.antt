-- Forms as trees, what a tree is written as, and how bytes are read.
use Rattle.std.specs.Prelude.{◌≡◌, ℕ, zero, suc, ◌+◌, ◌≤◌, Bool, true, false, ◌&&◌, List, [], ◌∷◌, ◌++◌, length, drop, is_some, Some, None, Option, ◌==◌, nat_le}
use Rattle.message.specs.declared.kind.Symbol.{Symbol}
use Rattle.message.specs.declared.kind.Symbol.TheVariants.{Atom, Variable, Join, Lock, Unused}
use Rattle.message.specs.Bytes.{symbol, is_atom, is_variable, is_locking}

-- a form: an atom, a variable, two forms joined, or a form locked under a key or a key variable
pub data Tree : Type 0 where
  atom : ℕ → Tree
  variable : ℕ → Tree
  joined : Tree → Tree → Tree
  locked : ℕ → Tree → Tree

-- each byte is of the sort that its place asks for
abbrev pub proper : Tree → Bool
proper (atom b) = is_atom b
proper (variable b) = is_variable b
proper (joined x y) = proper x && proper y
proper (locked k x) = is_locking k && proper x

-- the bytes of a form
abbrev pub write : Tree → List ℕ
write (atom b) = b ∷ []
write (variable b) = b ∷ []
write (joined x y) = 0xF0 ∷ (write x ++ write y)
write (locked k x) = 0xF1 ∷ (k ∷ write x)

-- how many bytes those are
abbrev pub size : Tree → ℕ
size (atom b) = 1
size (variable b) = 1
size (joined x y) = 1 + (size x + size y)
size (locked k x) = 2 + size x

-- go on with what was read, if anything was
abbrev pub and_then : {A B : Type 0} → Option A → (A → Option B) → Option B
and_then None f = None
and_then (Some x) f = f x

-- F1 goes on with what may lock, and then the form that is locked
abbrev pub reads_lock : List ℕ → (List ℕ → Option Tree) → Option Tree
reads_lock [] form = None
reads_lock (k ∷ rest) form = elim (is_locking k) [ true ↦ and_then (form rest) (λ x. Some (locked k x)) | false ↦ None ]

-- the form that begins with byte b and goes on with bs, where `form` reads the forms inside it
abbrev pub reads_by : Symbol → ℕ → List ℕ → (List ℕ → Option Tree) → Option Tree
reads_by (Atom k) b bs form = Some (atom b)
reads_by (Variable k) b bs form = Some (variable b)
reads_by Join b bs form = and_then (form bs) (λ x. and_then (form (drop (size x) bs)) (λ y. Some (joined x y)))
reads_by Lock b bs form = reads_lock bs form
reads_by Unused b bs form = None

-- the form at the front of the bytes, read at most as many forms deep as the number says
unfoldable pub reads : ℕ → List ℕ → Option Tree
reads zero bs = None
reads (suc f) [] = None
reads (suc f) (b ∷ bs) = reads_by (symbol b) b bs (reads f)

-- the form takes all the bytes, of which there are at most 24
abbrev pub whole : List ℕ → Tree → Option Tree
whole bs t = elim (size t == length bs && nat_le (length bs) 24) [ true ↦ Some t | false ↦ None ]

-- the one form that all the bytes are, of 1 to 24 bytes
abbrev pub form_of : List ℕ → Option Tree
form_of bs = and_then (reads (length bs) bs) (whole bs)

abbrev pub is_form : List ℕ → Bool
is_form bs = is_some (form_of bs)

-- no byte is a variable
abbrev pub closed : List ℕ → Bool
closed [] = true
closed (b ∷ bs) = elim (is_variable b) [ true ↦ false | false ↦ closed bs ]

-- the one message that all the bytes are: a form with no variable
abbrev pub message_of : List ℕ → Option Tree
message_of bs = elim (closed bs) [ true ↦ form_of bs | false ↦ None ]

abbrev pub is_message : List ℕ → Bool
is_message bs = is_some (message_of bs)

-- a form that keeps the rules: each byte fits its place, and there are at most 24
pub record Fits (t : Tree) : Type 0 where
  pub sound : proper t ≡ true
  pub short : size t ≤ 24

-- writing a form that keeps the rules and reading it gives it back, and bytes are read as no form but one that is written so
abbrev pub OneReading : Type 0
OneReading = ((t : Tree) → Fits t → form_of (write t) ≡ Some t) × ((bs : List ℕ) (t : Tree) → form_of bs ≡ Some t → Fits t × (write t ≡ bs))
