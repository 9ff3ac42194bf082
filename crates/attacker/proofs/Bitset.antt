-- The bits of a set of atoms. Assumes nothing.
use Rattle.std.proofs.Common.{◌≡◌, ℕ, ◌*◌, ◌%◌, ◌^◌, ◌<◌, ◌||◌, eqb, arith}
use lib.Bits.{bit_or}
use Rattle.std.proofs.lemmas.Nat.{and_mask, one_shl}
use Rattle.std.proofs.lemmas.Nat.Bits.{bit_at_or, bit_at-pow_same, bit_at-pow_other, bit_at-lt, bit_at-zero, shr_and_one}
use Rattle.std.proofs.lemmas.Bool.Decides.{nat_tests}
use Rattle.std.specs.Int.{bit_at}

-- putting atom a into the set
pub bit_added : (n a b : ℕ) → a < 128 → eqb (bit_at (bit_or n (1 * 2 ^ a % 2 ^ 128)) b) 1 ≡ (eqb (bit_at n b) 1 || eqb a b)
bit_added n a b small = grind (arith, nat_tests, one_shl a 128 small, bit_at_or n (2 ^ a) b, bit_at-pow_same a, bit_at-pow_other a b, bit_at-lt n b)

-- what is known of single bits
pub ruleset single_bits = (nat_tests, bit_added, bit_at-zero, shr_and_one, and_mask)
