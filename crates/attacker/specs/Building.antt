-- A test of what is known that is closed under parting and unlocking decides derivability.
use Rattle.std.specs.Prelude.{◌≡◌, ℕ, Bool, true, ◌&&◌, List}
use Rattle.std.proofs.Common.{inl, inr, arith}
use Rattle.std.proofs.lemmas.Bool.Decides.{nat_tests}
use Rattle.std.proofs.lemmas.Bool.{or_cases, and_parts}
use Rattle.message.specs.Bytes.{is_key}
use Rattle.message.specs.Trees.{Tree, atom, variable, joined, locked}
use Rattle.attacker.specs.Derivation.{Derivable, heard_whole, pairing, left_half, right_half, encryption, decryption, builds, Knowledge, Decided}

-- what is known can be built
pub known_builds : (known : Tree → Bool) (t : Tree) → known t ≡ true → builds known t ≡ true
known_builds known (atom b) h = h
known_builds known (variable b) h = h
known_builds known (joined x y) h = grind (arith, nat_tests)
known_builds known (locked k x) h = grind (arith, nat_tests)

-- what is built is derived
pub builds_sound : (heard : List (List ℕ)) (known : Tree → Bool) → Knowledge heard known → (t : Tree) → builds known t ≡ true → Derivable heard t
builds_sound heard known κ (atom b) h = κ.justified (atom b) h
builds_sound heard known κ (variable b) h = κ.justified (variable b) h
builds_sound heard known κ (joined x y) h =
    elim (or_cases (known (joined x y)) (builds known x && builds known y) h) [
      | inl e ↦ κ.justified (joined x y) e
      | inr e ↦
          let p = and_parts (builds known x) (builds known y) e in
          pairing (builds_sound heard known κ x p.0) (builds_sound heard known κ y p.1)
    ]
builds_sound heard known κ (locked k x) h =
    elim (or_cases (known (locked k x)) ((is_key k && known (atom k)) && builds known x) h) [
      | inl e ↦ κ.justified (locked k x) e
      | inr e ↦
          let p = and_parts (is_key k && known (atom k)) (builds known x) e in
          let q = and_parts (is_key k) (known (atom k)) p.0 in
          encryption q.0 (κ.justified (atom k) q.1) (builds_sound heard known κ x p.1)
    ]

-- what is derived is built
pub builds_complete : (heard : List (List ℕ)) (known : Tree → Bool) → Knowledge heard known → {t : Tree} → Derivable heard t → builds known t ≡ true
builds_complete heard known κ (heard_whole m {t} h e) = known_builds known t (κ.hears m t h e)
builds_complete heard known κ (pairing {x} {y} d e) = grind (arith, nat_tests, builds_complete heard known κ d, builds_complete heard known κ e)
builds_complete heard known κ (left_half {x} {y} d) = grind (arith, nat_tests, known_builds known x, κ.parts_left x y, builds_complete heard known κ d)
builds_complete heard known κ (right_half {x} {y} d) = grind (arith, nat_tests, known_builds known y, κ.parts_right x y, builds_complete heard known κ d)
builds_complete heard known κ (encryption {k} {x} i d e) = grind (arith, nat_tests, builds_complete heard known κ d, builds_complete heard known κ e)
builds_complete heard known κ (decryption {k} {j} {x} i d e) = grind (arith, nat_tests, known_builds known x, κ.unlocks k j x i, builds_complete heard known κ d, builds_complete heard known κ e)

-- such a test decides derivability
pub decided : Decided
decided heard known κ t = (builds_sound heard known κ t, λ d. builds_complete heard known κ d)
