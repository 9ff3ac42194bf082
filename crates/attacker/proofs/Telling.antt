-- The answer to a question: what is known decides as the rules do. Assumes nothing.
use Rattle.std.proofs.Common.{◌≡◌, ℕ, Bool, List, Some}
use Rattle.std.proofs.lemmas.Bool.Decides.{same_from_decides}
use Rattle.message.specs.Trees.{Tree, message_of}
use Rattle.attacker.specs.Derivation.{Knowledge, builds, stands, known_parts, derives}
use Rattle.attacker.specs.Building.{decided}
use Rattle.attacker.specs.Hearing.{known_parts_lem}

-- building from what is known answers as the decision does
pub same_decision : (heard : List (List ℕ)) (m : List ℕ) (t : Tree) → message_of m ≡ Some t → (known : Tree → Bool) → Knowledge heard known → builds known t ≡ derives heard m
unfolding derives
same_decision heard m t is known knowledge =
    rw (is, derives) (same_from_decides (builds known t) (builds (stands (known_parts heard)) t) (decided heard known knowledge t) (decided heard (stands (known_parts heard)) (known_parts_lem heard) t))
