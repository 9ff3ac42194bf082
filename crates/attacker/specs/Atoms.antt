-- Which atoms a set of bits holds.
use Rattle.std.specs.Prelude.{ℕ, ◌/◌, ◌%◌, ◌^◌, Bool, ◌&&◌, ◌==◌, nat_lt}
use Rattle.attacker.specs.declared.atoms.Atoms.{Atoms}

-- bit b of the set is one
unfoldable pub within : Atoms → ℕ → Bool
within s b = nat_lt b 128 && s.bits / 2 ^ b % 2 == 1

-- the bits of the keys, which are the atoms 50–6F
unfoldable pub key_bits : Atoms → ℕ
key_bits s = s.bits / 2 ^ 0x50 % 2 ^ 32
