-- What a write leaves in a buffer.
use Rattle.std.specs.Prelude.{◌≡◌, ℕ, ◌+◌, ◌≤◌, ◌/◌, ◌%◌, List, [], ◌∷◌, ◌++◌, length, take, drop}
use Rattle.exchange.specs.declared.exchange.writing.Pen.{Pen}

-- so many bytes fit behind those that are written
abbrev pub HasRoom : Pen → ℕ → Type 0
HasRoom pen n = pen.at + n ≤ length pen.out.now

-- bytes are put behind those that were written before; the rest of the buffer stays, and it is the same buffer
pub record Puts (old : Pen) (bs : List ℕ) (new : Pen) : Type 0 where
  pub size : new.at ≡ old.at + length bs
  pub bytes : new.out.now ≡ take old.at old.out.now ++ (bs ++ drop (old.at + length bs) old.out.now)
  pub buffer : new.out.ghost_name ≡ old.out.ghost_name
  pub long : length new.out.now ≡ length old.out.now

-- what stands before the value of a field: its tag, and the length of the value in two bytes with the high one first
abbrev pub field_start : ℕ → ℕ → List ℕ
field_start tag n = tag ∷ (n / 256) ∷ (n % 256) ∷ []
