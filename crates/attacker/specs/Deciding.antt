-- The decision is right, and it keeps the two laws of an attacker's relation.
use Rattle.std.specs.Prelude.{◌≡◌, ℕ, true, false, List, is_some, Some, None, Option, refl}
use Rattle.std.proofs.lemmas.Bool.{false≢true}
use Rattle.message.specs.Trees.{Tree, message_of}
use Rattle.attacker.specs.Laws.{Within, Monotone, Own}
use Rattle.attacker.specs.Derivation.{Derivable, heard_whole, pairing, left_half, right_half, encryption, decryption, CanMake, builds, stands, known_parts, derives, Decides}
use Rattle.attacker.specs.Building.{builds_sound, builds_complete}
use Rattle.attacker.specs.Hearing.{known_parts_lem}

-- what the decision allows the rules derive
pub derives_sound : (heard : List (List ℕ)) (m : List ℕ) → derives heard m ≡ true → CanMake heard m
unfolding derives
derives_sound heard m h = go (message_of m) refl h
  where
    go : (o : Option Tree) → message_of m ≡ o → elim o [ None ↦ false | Some t ↦ builds (stands (known_parts heard)) t ] ≡ true → CanMake heard m
    go None e s = absurd (false≢true s)
    go (Some t) e s = (t, e, builds_sound heard (stands (known_parts heard)) (known_parts_lem heard) t s)

-- what the rules derive the decision allows
pub derives_complete : (heard : List (List ℕ)) (m : List ℕ) → CanMake heard m → derives heard m ≡ true
unfolding derives
derives_complete heard m c = rw (c.1, derives) (builds_complete heard (stands (known_parts heard)) (known_parts_lem heard) c.2)

-- the decision is right, both ways
pub decides_right : Decides
decides_right heard m = (derives_sound heard m, derives_complete heard m)

-- whoever hears more derives no less
pub derivable_more : (xs ys : List (List ℕ)) → Within xs ys → {t : Tree} → Derivable xs t → Derivable ys t
derivable_more xs ys w (heard_whole m h e) = heard_whole m (w m h) e
derivable_more xs ys w (pairing d e) = pairing (derivable_more xs ys w d) (derivable_more xs ys w e)
derivable_more xs ys w (left_half d) = left_half (derivable_more xs ys w d)
derivable_more xs ys w (right_half d) = right_half (derivable_more xs ys w d)
derivable_more xs ys w (encryption i d e) = encryption i (derivable_more xs ys w d) (derivable_more xs ys w e)
derivable_more xs ys w (decryption i d e) = decryption i (derivable_more xs ys w d) (derivable_more xs ys w e)

-- whoever has heard all that another heard can make all that the other can
pub derives_monotone : Monotone derives
derives_monotone xs ys w m h =
    let c : CanMake xs m = derives_sound xs m h in
    derives_complete ys m (c.0, c.1, derivable_more xs ys w c.2)

-- what was heard can be said again
pub derives_own : Own derives
derives_own xs m i h = go (message_of m) refl i
  where
    go : (o : Option Tree) → message_of m ≡ o → is_some o ≡ true → derives xs m ≡ true
    go None e s = absurd (false≢true s)
    go (Some t) e s = derives_complete xs m (t, e, heard_whole m h e)
