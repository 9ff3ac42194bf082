-- The heard messages as trees, and the test of what is known after hearing them.
use Rattle.std.specs.Prelude.{◌≡◌, ℕ, true, false, List, [], ◌∷◌, Some, None, Option, refl}
use Rattle.std.proofs.Common.{sym, subst, ap, ◌∙◌, inl, inr, arith}
use Rattle.std.proofs.lemmas.Bool.Decides.{nat_tests}
use Rattle.std.proofs.lemmas.Bool.{or_cases, or_left, or_right, false≢true}
use Rattle.std.proofs.lemmas.Slice.Eq.{bytes_eq-Decides}
use Rattle.std.specs.Str.{bytes_eq}
use Rattle.message.specs.Trees.{Tree, joined, locked, message_of}
use Rattle.attacker.specs.Laws.{has}
use Rattle.attacker.specs.Derivation.{Derivable, heard_whole, stands, all_parts, messages, total_size, known_parts, Knowledge}
use Rattle.attacker.specs.Standing.{stands_first, stands_cases}
use Rattle.attacker.specs.Growing.{all_grow}
use Rattle.attacker.specs.Closing.{Closed, all_whole, all_closed, all_derived, opens_from}
use Rattle.attacker.specs.Rounds.{Settled, closure_settles, closure_derived}

-- a heard message stands among the trees
pub messages_have : (heard : List (List ℕ)) (m : List ℕ) (t : Tree) → has heard m ≡ true → message_of m ≡ Some t → stands (messages heard) t ≡ true
messages_have [] m t h e = absurd (false≢true h)
messages_have (x ∷ xs) m t h e =
    elim (or_cases (bytes_eq x m) (has xs m) h) [
      | inl s ↦ let first = ap message_of ((bytes_eq-Decides x m).0 s) ∙ e in rw (first, messages) (stands_first t (messages xs))
      | inr s ↦ grind (arith, nat_tests, messages_have xs m t s e)
    ]

-- a tree that stands among them is a heard message
pub messages_heard : (heard : List (List ℕ)) (t : Tree) → stands (messages heard) t ≡ true → (m : List ℕ) × (has heard m ≡ true) × (message_of m ≡ Some t)
messages_heard [] t h = absurd (false≢true h)
messages_heard (x ∷ xs) t h = go (message_of x) refl (messages_heard xs t) h
  where
    here : has (x ∷ xs) x ≡ true
    here = or_left (bytes_eq x x) (has xs x) ((bytes_eq-Decides x x).1 refl)

    past : (m : List ℕ) × (has xs m ≡ true) × (message_of m ≡ Some t) → (m : List ℕ) × (has (x ∷ xs) m ≡ true) × (message_of m ≡ Some t)
    past r = (r.0, or_right (bytes_eq x r.0) (has xs r.0) r.1, r.2)

    go : (o : Option Tree) → message_of x ≡ o → (stands (messages xs) t ≡ true → (m : List ℕ) × (has xs m ≡ true) × (message_of m ≡ Some t)) → stands (elim o [ None ↦ messages xs | Some u ↦ u ∷ messages xs ]) t ≡ true → (m : List ℕ) × (has (x ∷ xs) m ≡ true) × (message_of m ≡ Some t)
    go None e ih s = past (ih s)
    go (Some u) e ih s = elim (stands_cases u (messages xs) t s) [ inl f ↦ (x, here, e ∙ ap Some f) | inr f ↦ past (ih f) ]

-- each of those trees is derivable
pub messages_derived : (heard : List (List ℕ)) (t : Tree) → stands (messages heard) t ≡ true → Derivable heard t
messages_derived heard t h = let r = messages_heard heard t h in heard_whole r.0 r.1 r.2

-- the rounds over the heard messages end settled
pub known_settled : (heard : List (List ℕ)) → Settled (messages heard) (known_parts heard)
known_settled heard =
    let ts : List Tree = messages heard in
    let start : List Tree = all_parts (λ t. false) ts in
    closure_settles (total_size ts) ts start (all_grow (λ t. false) (stands start) (λ t h. absurd (false≢true h)) ts) (omega arith)

-- what they find is derivable
pub known_derived : (heard : List (List ℕ)) (t : Tree) → stands (known_parts heard) t ≡ true → Derivable heard t
known_derived heard =
    let ts : List Tree = messages heard in
    closure_derived heard (total_size ts) ts (all_parts (λ t. false) ts) (messages_derived heard)
    (all_derived heard (λ t. false) (λ s h. absurd (false≢true h)) ts (messages_derived heard))

-- what they find is closed
pub known_closed : (heard : List (List ℕ)) → Closed (stands (known_parts heard)) (known_parts heard)
known_closed heard =
    let r : List Tree = known_parts heard in
    subst (λ (xs : List Tree). Closed (stands r) xs) (sym (known_settled heard)) (all_closed (stands r) (messages heard))

-- what they find has the heard messages
pub known_has : (heard : List (List ℕ)) (t : Tree) → stands (messages heard) t ≡ true → stands (known_parts heard) t ≡ true
known_has heard t h =
    let r : List Tree = known_parts heard in
    subst (λ (xs : List Tree). stands xs t ≡ true) (sym (known_settled heard)) (all_whole (stands r) (messages heard) t h)

-- so standing among what they find is knowledge
pub known_parts_lem : (heard : List (List ℕ)) → Knowledge heard (stands (known_parts heard))
known_parts_lem heard = record {
  justified = known_derived heard;
  hears = λ m t h e. known_has heard t (messages_have heard m t h e);
  parts_left = λ x y h. known_closed heard (joined x y) x (inl refl) h;
  parts_right = λ x y h. known_closed heard (joined x y) y (inr refl) h;
  unlocks = λ k j x e h a. known_closed heard (locked k x) x (opens_from (stands (known_parts heard)) k j e a, refl) h;
}
