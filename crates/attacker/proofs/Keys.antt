-- Sets that have the same keys open the same locks, and a set that has the keys of another has no smaller key bits. Assumes
-- nothing.
use Rattle.std.proofs.Common.{◌≡◌, ℕ, ◌+◌, ◌-◌, ◌/◌, ◌%◌, ◌^◌, ◌<◌, ◌≤◌, min, Bool, false, cond, ◌&&◌, eqb, ltb, List, [], ◌∷◌, Some, None, Option, sym, refl, ap, ◌∙◌, arith}
use lib.Bits.{bit_and}
use Rattle.std.proofs.lemmas.Bool.Decides.{nat_tests}
use Rattle.std.proofs.lemmas.Nat.{shr-shr, and_mask, and_le_r, mod_below}
use Rattle.std.proofs.lemmas.Nat.Bits.{bit_at_and, bit_at_ones, bit_at-lt, same_from_bits_below}
use Rattle.std.specs.Int.{bit_at}
use Rattle.message.specs.Bytes.{inverse_of}
use Rattle.attacker.specs.declared.atoms.Atoms.{Atoms}
use Rattle.attacker.specs.Atoms.{within, key_bits}
use Rattle.attacker.specs.Derivation.{opens}
use Rattle.attacker.specs.Known.{atom_known, signs, weight, weights, Inside}

-- bit c of the key bits is bit 50 + c of the set
key_bit : (s : Atoms) (c : ℕ) → c < 32 → bit_at (key_bits s) c ≡ bit_at s.bits (0x50 + c)
unfolding key_bits
key_bit s c h =
    let m = s.bits / 2 ^ 0x50 in
    let masked : bit_at (m % 2 ^ 32) c ≡ min (bit_at m c) (bit_at (2 ^ 32 - 1) c) = ap (λ n. bit_at n c) (sym (and_mask m 32)) ∙ bit_at_and m (2 ^ 32 - 1) c in
    let one : bit_at (2 ^ 32 - 1) c ≡ 1 = bit_at_ones 32 c h in
    let low = bit_at-lt m c in
    let kept : bit_at (m % 2 ^ 32) c ≡ bit_at m c = omega arith in
    kept ∙ ap (λ n. n % 2) (shr-shr s.bits 0x50 c)

pub key_same : (s u : Atoms) → key_bits s ≡ key_bits u → (j : ℕ) → 0x50 ≤ j → j < 0x70 → within s j ≡ within u j
unfolding within
key_same s u e j low high =
    let c = j - 0x50 in
    let is : 0x50 + c ≡ j = omega arith in
    let bit : bit_at s.bits (0x50 + c) ≡ bit_at u.bits (0x50 + c) = sym (key_bit s c (omega arith)) ∙ ap (λ k. bit_at k c) e ∙ key_bit u c (omega arith) in
    ap (λ b. ltb j 128 && eqb b 1) (ap (bit_at s.bits) (sym is) ∙ bit ∙ ap (bit_at u.bits) is)

pub key_few : (s : Atoms) → key_bits s < 2 ^ 32
unfolding key_bits
key_few s = mod_below (s.bits / 2 ^ 0x50) (2 ^ 32) (omega arith)

-- the number of the key bits is no smaller where no atom is missing
pub key_grows : (s u : Atoms) → Inside s u → key_bits s ≤ key_bits u
unfolding within
key_grows s u inside = omega (arith, and_le_r (key_bits s) (key_bits u), same)
  where
    bit : (c : ℕ) → c < 32 → bit_at (bit_and (key_bits s) (key_bits u)) c ≡ bit_at (key_bits s) c
    bit c h = grind (arith, nat_tests, bit_at_and (key_bits s) (key_bits u) c, key_bit s c h, key_bit u c h, inside (0x50 + c), bit_at-lt s.bits (0x50 + c), bit_at-lt u.bits (0x50 + c))

    same : bit_and (key_bits s) (key_bits u) ≡ key_bits s
    same = same_from_bits_below 32 (bit_and (key_bits s) (key_bits u)) (key_bits s) (omega (arith, and_le_r (key_bits s) (key_bits u), key_few u)) (key_few s) bit

-- an inverse is a key
pub inverse_key : (k j : ℕ) → inverse_of k ≡ Some j → (0x50 ≤ j) × (j < 0x70)
inverse_key k j e = (grind arith, grind arith)

module _ (s u : Atoms) (same : key_bits s ≡ key_bits u) where
  pub same_opener : (k j : ℕ) → inverse_of k ≡ Some j → within s j ≡ within u j
  same_opener k j e = let key = inverse_key k j e in key_same s u same j key.0 key.1

  same_opens : (k : ℕ) → opens (atom_known s) k ≡ opens (atom_known u) k
  same_opens k = go (inverse_of k) refl
    where
      go : (o : Option ℕ) → inverse_of k ≡ o → elim o as (λ _. Bool) [ None ↦ false | Some j ↦ within s j ] ≡ elim o as (λ _. Bool) [ None ↦ false | Some j ↦ within u j ]
      go None e = refl
      go (Some j) e = same_opener k j e

  same_weight : (m : List ℕ) → weight s m ≡ weight u m
  same_weight [] = refl
  same_weight (b ∷ []) = refl
  same_weight (b ∷ k ∷ bs) = ap (λ o. cond (eqb b 0xF1) (cond o 1 (signs (b ∷ k ∷ bs))) 1) (same_opens k)

  pub same_weights : (ms : List (List ℕ)) → weights s ms ≡ weights u ms
  same_weights [] = refl
  same_weights (m ∷ ms) = λ i. same_weight m i + same_weights ms i
