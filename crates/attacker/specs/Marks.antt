-- What the full attacker knows of the messages that it has heard, and knew after each count of them.
use Rattle.std.specs.Prelude.{ℕ, ◌*◌, ◌≤◌, List, length, map, take, slice_index_or}
use Rattle.message.specs.Messages.{message_text}
use Rattle.attacker.specs.declared.full.Heard.{Heard}
use Rattle.attacker.specs.declared.mark.Mark.{Mark}
use Rattle.attacker.specs.Derivation.{Knowledge}
use Rattle.attacker.specs.Known.{State, known_by, weights}

-- the bytes of each message that was heard
abbrev pub heard_texts : List Heard → List (List ℕ)
heard_texts heard = map (λ (h : Heard). message_text h.message) heard

-- how much was known before each of them
abbrev pub marks : List Heard → List Mark
marks heard = map (λ (h : Heard). h.before) heard

-- how much is known
abbrev pub mark_of : State → Mark
mark_of known = record { atoms = known.atoms; parts = length known.kept }

-- what was known at a mark: its atoms, and as many of the kept parts as it counts
abbrev pub at_mark : Mark → State → State
at_mark mark known = record { atoms = mark.atoms; kept = take mark.parts known.kept }

-- how much was known after the first n messages: as much as stands with the one that came next, or else as much as now
abbrev pub mark_after : List Heard → State → ℕ → Mark
mark_after heard known n = slice_index_or (marks heard) n (mark_of known)

-- What is known decides what the rules derive from the heard messages, and its parts take no more room than eleven for
-- each message.
pub record Knows (heard : List (List ℕ)) (known : State) : Type 0 where
  pub decides : Knowledge heard (known_by known)
  pub roomy : weights known.atoms known.kept ≤ 11 * length heard

-- What was known at the mark after the first n messages was right. Later marks count no fewer parts.
pub record Remembers (heard : List Heard) (known : State) : Type 0 where
  pub knows : (n : ℕ) → Knows (take n (heard_texts heard)) (at_mark (mark_after heard known n) known)
  pub rising : (m n : ℕ) → m ≤ n → (mark_after heard known m).parts ≤ (mark_after heard known n).parts
