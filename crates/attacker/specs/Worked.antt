-- Worked questions: what was heard, what is asked for, and whether the full attacker and the repeater can make it.
use Rattle.std.specs.Prelude.{◌≡◌, ℕ, Bool, true, false, cond, not, ◌&&◌, List, [], ◌∷◌}
use Rattle.attacker.specs.Derivation.{derives}
use Rattle.attacker.specs.Laws.{has}

pub record Question : Type 0 where
  pub heard : List (List ℕ)
  pub asked : List ℕ
  pub full : Bool
  pub repeater : Bool

abbrev same : Bool → Bool → Bool
same a b = cond a b (not b)

-- both relations answer as the row says
abbrev agrees : Question → Bool
agrees q = same (derives q.heard q.asked) q.full && same (has q.heard q.asked) q.repeater

abbrev pub all_agree : List Question → Bool
all_agree [] = true
all_agree (q ∷ qs) = agrees q && all_agree qs

abbrev row : List (List ℕ) → List ℕ → Bool → Bool → Question
row heard asked full repeater = record { heard = heard; asked = asked; full = full; repeater = repeater }

abbrev pub questions : List Question
questions =
    -- a key opens what its inverse locked
    row ((0xF1 ∷ 0x60 ∷ 0x40 ∷ []) ∷ (0x61 ∷ []) ∷ []) (0x40 ∷ []) true false ∷ (
    -- also a key that was heard before the lock
    row ((0x61 ∷ []) ∷ (0xF1 ∷ 0x60 ∷ 0x40 ∷ []) ∷ []) (0x40 ∷ []) true false ∷ (
    -- without the key the lock stays shut
    row ((0xF1 ∷ 0x60 ∷ 0x40 ∷ []) ∷ []) (0x40 ∷ []) false false ∷ (
    -- a key of a pair does not open what it locks itself
    row ((0xF1 ∷ 0x60 ∷ 0x40 ∷ []) ∷ (0x60 ∷ []) ∷ []) (0x40 ∷ []) false false ∷ (
    -- a shared key does, and it may come out of another lock
    row ((0xF1 ∷ 0x50 ∷ 0x44 ∷ []) ∷ (0xF1 ∷ 0x51 ∷ 0x50 ∷ []) ∷ (0x51 ∷ []) ∷ []) (0x44 ∷ []) true false ∷ (
    -- either half of a joined message
    row ((0xF0 ∷ 0x42 ∷ 0x43 ∷ []) ∷ []) (0x43 ∷ []) true false ∷ (
    -- two messages joined
    row ((0x42 ∷ []) ∷ (0x43 ∷ []) ∷ []) (0xF0 ∷ 0x43 ∷ 0x42 ∷ []) true false ∷ (
    -- a message locked with a key that is known
    row ((0x40 ∷ []) ∷ (0x50 ∷ []) ∷ []) (0xF1 ∷ 0x50 ∷ 0x40 ∷ []) true false ∷ (
    -- not with one that is not
    row ((0x40 ∷ []) ∷ []) (0xF1 ∷ 0x50 ∷ 0x40 ∷ []) false false ∷ (
    -- what was heard whole
    row ((0xF1 ∷ 0x50 ∷ 0x40 ∷ []) ∷ []) (0xF1 ∷ 0x50 ∷ 0x40 ∷ []) true true ∷ (
    -- a key beside the lock that it opens
    row ((0xF0 ∷ 0xF1 ∷ 0x50 ∷ 0x40 ∷ 0x50 ∷ []) ∷ []) (0x40 ∷ []) true false ∷ (
    -- nothing from nothing
    row ([]) (0x40 ∷ []) false false ∷ (
    -- locks within locks, with both keys
    row ((0xF1 ∷ 0x60 ∷ 0xF1 ∷ 0x61 ∷ 0x40 ∷ []) ∷ (0x60 ∷ []) ∷ (0x61 ∷ []) ∷ []) (0x40 ∷ []) true false ∷ (
    -- a lock under a key and its inverse is not open by itself
    row ((0xF1 ∷ 0x60 ∷ 0xF1 ∷ 0x61 ∷ 0x40 ∷ []) ∷ []) (0x40 ∷ []) false false ∷ (
    []))))))))))))))

-- the worked questions have these answers
abbrev pub Worked : Type 0
Worked = all_agree questions ≡ true
