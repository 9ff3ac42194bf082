-- The parts of messages are closed under parting and under unlocking with what is known, and the rules derive them.
use Rattle.std.specs.Prelude.{◌≡◌, ℕ, Bool, true, false, ◌⊎◌, List, [], ◌∷◌, ◌++◌, Some, None, Option, refl}
use Rattle.std.proofs.Common.{sym, subst, inl, inr}
use Rattle.std.proofs.lemmas.Bool.{false≢true}
use Rattle.message.specs.Bytes.{inverse_of}
use Rattle.message.specs.Trees.{Tree, atom, variable, joined, locked}
use Rattle.attacker.specs.Derivation.{Derivable, left_half, right_half, decryption, stands, opens, parts, all_parts}
use Rattle.attacker.specs.Standing.{stands_first, stands_later, stands_cases, stands_before, stands_behind, stands_either}

-- what comes out of a message in one step: the halves of a joined one, and what a lock holds that opens
abbrev pub ComesOut : (Tree → Bool) → Tree → Tree → Type 0
ComesOut known (atom b) q = ⊥
ComesOut known (variable b) q = ⊥
ComesOut known (joined x y) q = (x ≡ q) ⊎ (y ≡ q)
ComesOut known (locked k x) q = (opens known k ≡ true) × (x ≡ q)

-- what comes out of a standing message stands too
abbrev pub Closed : (Tree → Bool) → List Tree → Type 0
Closed known xs = (p q : Tree) → ComesOut known p q → stands xs p ≡ true → stands xs q ≡ true

-- the empty list is closed
closed_none : (known : Tree → Bool) → Closed known []
closed_none known p q i h = absurd (false≢true h)

-- one more message, before a closed list that has what comes out of it
closed_cons : (known : Tree → Bool) (t : Tree) (xs : List Tree) → ((q : Tree) → ComesOut known t q → stands xs q ≡ true) → Closed known xs → Closed known (t ∷ xs)
closed_cons known t xs inner c p q i h =
    elim (stands_cases t xs p h) [
      | inl e ↦ stands_later t xs q (inner q (subst (λ (u : Tree). ComesOut known u q) (sym e) i))
      | inr e ↦ stands_later t xs q (c p q i e)
    ]

-- two closed lists together are closed
closed_append : (known : Tree → Bool) (xs ys : List Tree) → Closed known xs → Closed known ys → Closed known (xs ++ ys)
closed_append known xs ys c d p q i h =
    elim (stands_either xs ys p h) [
      | inl e ↦ stands_before xs ys q (c p q i e)
      | inr e ↦ stands_behind xs ys q (d p q i e)
    ]

-- a message stands among its parts
pub parts_whole : (known : Tree → Bool) (t : Tree) → stands (parts known t) t ≡ true
parts_whole known (atom b) = stands_first (atom b) []
parts_whole known (variable b) = stands_first (variable b) []
parts_whole known (joined x y) = stands_first (joined x y) (parts known x ++ parts known y)
parts_whole known (locked k x) = stands_first (locked k x) (elim (opens known k) [ true ↦ parts known x | false ↦ [] ])

-- each of the messages stands among the parts of all
pub all_whole : (known : Tree → Bool) (ts : List Tree) (t : Tree) → stands ts t ≡ true → stands (all_parts known ts) t ≡ true
all_whole known [] t h = h
all_whole known (x ∷ xs) t h =
    elim (stands_cases x xs t h) [
      | inl e ↦ stands_before (parts known x) (all_parts known xs) t (subst (λ (u : Tree). stands (parts known x) u ≡ true) e (parts_whole known x))
      | inr e ↦ stands_behind (parts known x) (all_parts known xs) t (all_whole known xs t e)
    ]

-- the parts of a message are closed
pub parts_closed : (known : Tree → Bool) (t : Tree) → Closed known (parts known t)
parts_closed known (atom b) = closed_cons known (atom b) [] (λ q i. absurd i) (closed_none known)
parts_closed known (variable b) = closed_cons known (variable b) [] (λ q i. absurd i) (closed_none known)
parts_closed known (joined x y) =
    closed_cons known (joined x y) (parts known x ++ parts known y)
    (λ q i. elim i [
      | inl e ↦ subst (λ (u : Tree). stands (parts known x ++ parts known y) u ≡ true) e (stands_before (parts known x) (parts known y) x (parts_whole known x))
      | inr e ↦ subst (λ (u : Tree). stands (parts known x ++ parts known y) u ≡ true) e (stands_behind (parts known x) (parts known y) y (parts_whole known y))
    ])
    (closed_append known (parts known x) (parts known y) (parts_closed known x) (parts_closed known y))
parts_closed known (locked k x) =
    closed_cons known (locked k x) (elim (opens known k) [ true ↦ parts known x | false ↦ [] ])
    (λ q i. subst (λ (u : Tree). stands (elim (opens known k) [ true ↦ parts known x | false ↦ [] ]) u ≡ true) i.1 (held (opens known k) i.0))
    (shut (opens known k) (parts_closed known x))
  where
    held : (b : Bool) → b ≡ true → stands (elim b [ true ↦ parts known x | false ↦ [] ]) x ≡ true
    held true e = parts_whole known x
    held false e = absurd (false≢true e)

    shut : (b : Bool) → Closed known (parts known x) → Closed known (elim b [ true ↦ parts known x | false ↦ [] ])
    shut true c = c
    shut false c = closed_none known

-- so are the parts of all messages
pub all_closed : (known : Tree → Bool) (ts : List Tree) → Closed known (all_parts known ts)
all_closed known [] = closed_none known
all_closed known (t ∷ ts) = closed_append known (parts known t) (all_parts known ts) (parts_closed known t) (all_closed known ts)

-- a lock opens if its inverse key is known
pub opens_from : (known : Tree → Bool) (k j : ℕ) → inverse_of k ≡ Some j → known (atom j) ≡ true → opens known k ≡ true
opens_from known k j e h = rw (e, opens) h

-- a lock that opens has an inverse key, which is known
pub opens_by : (known : Tree → Bool) (k : ℕ) → opens known k ≡ true → (j : ℕ) × (inverse_of k ≡ Some j) × (known (atom j) ≡ true)
opens_by known k h = go (inverse_of k) refl h
  where
    go : (o : Option ℕ) → inverse_of k ≡ o → elim o [ None ↦ false | Some i ↦ known (atom i) ] ≡ true → (j : ℕ) × (inverse_of k ≡ Some j) × (known (atom j) ≡ true)
    go None e h = absurd (false≢true h)
    go (Some j) e h = (j, e, h)

-- the parts of a derivable message are derivable, if all that is known is
pub parts_derived : (heard : List (List ℕ)) (known : Tree → Bool) → ((s : Tree) → known s ≡ true → Derivable heard s) → (t : Tree) → Derivable heard t → (s : Tree) → stands (parts known t) s ≡ true → Derivable heard s
parts_derived heard known j (atom b) d s h =
    elim (stands_cases (atom b) [] s h) [ inl e ↦ subst (λ (u : Tree). Derivable heard u) e d | inr e ↦ absurd (false≢true e) ]
parts_derived heard known j (variable b) d s h =
    elim (stands_cases (variable b) [] s h) [ inl e ↦ subst (λ (u : Tree). Derivable heard u) e d | inr e ↦ absurd (false≢true e) ]
parts_derived heard known j (joined x y) d s h =
    elim (stands_cases (joined x y) (parts known x ++ parts known y) s h) [
      | inl e ↦ subst (λ (u : Tree). Derivable heard u) e d
      | inr e ↦ elim (stands_either (parts known x) (parts known y) s e) [
        | inl f ↦ parts_derived heard known j x (left_half d) s f
        | inr f ↦ parts_derived heard known j y (right_half d) s f
      ]
    ]
parts_derived heard known j (locked k x) d s h =
    elim (stands_cases (locked k x) (elim (opens known k) [ true ↦ parts known x | false ↦ [] ]) s h) [
      | inl e ↦ subst (λ (u : Tree). Derivable heard u) e d
      | inr e ↦ go (opens known k) refl (λ dx. parts_derived heard known j x dx s) e
    ]
  where
    go : (b : Bool) → opens known k ≡ b → (Derivable heard x → stands (parts known x) s ≡ true → Derivable heard s) → stands (elim b [ true ↦ parts known x | false ↦ [] ]) s ≡ true → Derivable heard s
    go true o ih e = let r = opens_by known k o in ih (decryption r.1 d (j (atom r.0) r.2)) e
    go false o ih e = absurd (false≢true e)

-- so are the parts of all messages, if the messages are
pub all_derived : (heard : List (List ℕ)) (known : Tree → Bool) → ((s : Tree) → known s ≡ true → Derivable heard s) → (ts : List Tree) → ((t : Tree) → stands ts t ≡ true → Derivable heard t) → (s : Tree) → stands (all_parts known ts) s ≡ true → Derivable heard s
all_derived heard known j [] d s h = absurd (false≢true h)
all_derived heard known j (t ∷ ts) d s h =
    elim (stands_either (parts known t) (all_parts known ts) s h) [
      | inl e ↦ parts_derived heard known j t (d t (stands_first t ts)) s e
      | inr e ↦ all_derived heard known j ts (λ u f. d u (stands_later t ts u f)) s e
    ]
