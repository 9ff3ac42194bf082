-- Where a word and its blanks end, and one turn of each loop over hexadecimal or decimal digits, with its ends.
use Rattle.std.proofs.Common.{◌≡◌, ℕ, ◌+◌, ◌-◌, ◌*◌, ◌<◌, ◌≤◌, Bool, true, false, not, position, unwrap_or, List, [], ◌∷◌, ◌++◌, length, get_or, take, drop, Some, None, Option, sym, refl, ap, ◌∙◌, inl, inr, append_assoc, append-nil, one-add, arith, vec_items, Vec, Global, ◌==◌}
use Rattle.std.proofs.lemmas.List.{at_drop_more, at_drop_all, take_rest}
use Rattle.std.proofs.lemmas.Bool.{cases_Bool}
use Rattle.std.specs.Option.{option_map}
use Rattle.std.specs.Bool.{then_some}
use Rattle.std.proofs.lemmas.Iterator.Adapters.{option_map_id}
use Rattle.std.specs.List.{position_or_len}
use Rattle.std.proofs.lemmas.List.Sums.{prefix_len-le-length}
use Rattle.std.proofs.lemmas.List.Recursion.{is_position_or_len}
use Rattle.std.proofs.lemmas.Bool.Decides.{nat_tests}
use Rattle.command.specs.Line.{blank, word_length, unblanked}
use Rattle.command.specs.Values.{hex_byte, hex_bytes, decimal_digit, decimal_from, number_of, capped}

-- the first place that passes p, or the end where none does
first_or_end : (p : ℕ → Bool) (xs : List ℕ) → unwrap_or (position p xs) (length xs) ≡ position_or_len p xs
first_or_end p xs = grind (arith, nat_tests, prefix_len-le-length (λ x. not (p x)) xs)

-- the word ends before the first blank
pub word_length_is : (xs : List ℕ) → unwrap_or (position blank xs) (length xs) ≡ word_length xs
unfolding word_length
word_length_is xs =
    first_or_end blank xs ∙ sym (is_position_or_len word_length blank refl (λ x ys. grind arith) xs)

-- the text after its blanks begins at the first byte that is none
pub unblanked_is : (xs : List ℕ) → drop (unwrap_or (position (λ b. not (blank b)) xs) (length xs)) xs ≡ unblanked xs
unfolding unblanked
unblanked_is xs = rw first_or_end (dropped xs)
  where
    dropped : (xs : List ℕ) → drop (position_or_len (λ b. not (blank b)) xs) xs ≡ unblanked xs
    dropped [] = refl
    dropped (x ∷ xs) = elim (cases_Bool (blank x)) [
      | inl is ↦ rw (is, unblanked, one-add) (dropped xs)
      | inr isnt ↦ rw (isnt, unblanked) refl
    ]

-- a text after its blanks does not begin with one; past its end stands a 0, which is none
pub unblanked_front : (xs : List ℕ) → blank (get_or (unblanked xs) 0 0) ≡ false
unfolding unblanked
unblanked_front [] = refl
unblanked_front (x ∷ xs) =
    elim (cases_Bool (blank x)) [ inl is ↦ rw (is, unblanked) (unblanked_front xs) | inr isnt ↦ rw (isnt, unblanked) isnt ]

-- blanks at the front change no byte
hex_blank : (x : ℕ) (xs : List ℕ) → blank x ≡ true → hex_bytes (x ∷ xs) ≡ hex_bytes xs
unfolding hex_bytes
hex_blank x [] is = rw (is, hex_bytes)
hex_blank x (y ∷ ys) is = rw (is, hex_bytes)

-- so they may be left out
pub hex_unblanked : (xs : List ℕ) → hex_bytes (unblanked xs) ≡ hex_bytes xs
unfolding unblanked
hex_unblanked [] = refl
hex_unblanked (x ∷ xs) =
    elim (cases_Bool (blank x)) [
      | inl is ↦ rw (is, unblanked) (hex_unblanked xs ∙ sym (hex_blank x xs is))
      | inr isnt ↦ rw (isnt, unblanked) refl
    ]

-- nothing is read yet
pub hex_begins : (xs left : List ℕ) → left ≡ unblanked xs → option_map (λ bs. [] ++ bs) (hex_bytes left) ≡ hex_bytes xs
hex_begins xs left is = option_map_id (hex_bytes left) ∙ ap hex_bytes is ∙ hex_unblanked xs

-- two bytes at the front, the first no blank, stand for one byte before those of the rest, or for none
pair : (t : List ℕ) (o : Option ℕ) → 2 ≤ length t → blank (get_or t 0 0) ≡ false → o ≡ hex_byte (get_or t 0 0) (get_or t 1 0)
    → hex_bytes t ≡ elim o [ None ↦ None | Some b ↦ option_map (λ bs. b ∷ bs) (hex_bytes (drop 2 t)) ]
unfolding hex_bytes
pair [] o two isnt is = absurd (omega arith)
pair (x ∷ []) o two isnt is = absurd (omega arith)
pair (x ∷ y ∷ ys) o two isnt is = rw (isnt, hex_bytes, is) refl

pub hex_wrong : (done t : List ℕ) → 2 ≤ length t → blank (get_or t 0 0) ≡ false → None ≡ hex_byte (get_or t 0 0) (get_or t 1 0)
    → None ≡ option_map (λ bs. done ++ bs) (hex_bytes t)
hex_wrong done t two isnt none = sym (ap (option_map (λ bs. done ++ bs)) (pair t None two isnt none))

pub hex_more : (done t left : List ℕ) (b : ℕ) → 2 ≤ length t → blank (get_or t 0 0) ≡ false
    → Some b ≡ hex_byte (get_or t 0 0) (get_or t 1 0) → left ≡ unblanked (take (length t - 2) (drop 2 t))
    → option_map (λ bs. (done ++ b ∷ []) ++ bs) (hex_bytes left) ≡ option_map (λ bs. done ++ bs) (hex_bytes t)
hex_more done t left b two isnt is e =
    ap (λ xs. option_map (λ bs. (done ++ b ∷ []) ++ bs) (hex_bytes xs)) e
    ∙ ap (option_map (λ bs. (done ++ b ∷ []) ++ bs)) (hex_unblanked (take (length t - 2) (drop 2 t)) ∙ ap hex_bytes (take_rest t 2))
    ∙ pushed (hex_bytes (drop 2 t)) ∙ ap (option_map (λ bs. done ++ bs)) (sym (pair t (Some b) two isnt is))
  where
    pushed : (o : Option (List ℕ))
        → option_map (λ bs. (done ++ b ∷ []) ++ bs) o ≡ option_map (λ bs. done ++ bs) (option_map (λ bs. b ∷ bs) o)
    pushed None = refl
    pushed (Some bs) = ap Some (append_assoc done (b ∷ []) bs)

-- no byte is left, or one that stands for none
pub hex_last : (done : Vec ℕ Global) (t : List ℕ) → length t < 2 → blank (get_or t 0 0) ≡ false
    → option_map vec_items (then_some (length t == 0) done) ≡ option_map (λ bs. vec_items done ++ bs) (hex_bytes t)
unfolding hex_bytes
hex_last done [] few isnt = ap Some (sym (append-nil (vec_items done)))
hex_last done (x ∷ []) few isnt = rw (isnt, hex_bytes) refl
hex_last done (x ∷ y ∷ ys) few isnt = absurd (omega arith)

pub number_some : (xs : List ℕ) → 0 < length xs → decimal_from 0 xs ≡ number_of xs
number_some [] l = absurd (omega arith)
number_some (x ∷ xs) l = refl

-- a number may be capped before its last digits are read
capped_early : (n : ℕ) (xs : List ℕ) → option_map capped (decimal_from (capped n) xs) ≡ option_map capped (decimal_from n xs)
unfolding decimal_from
capped_early n [] = ap Some (omega arith)
capped_early n (x ∷ xs) =
    by_digit (decimal_digit x) (λ m. capped_early m xs)
  where
    twice : (d : ℕ) → capped (capped n * 10 + d) ≡ capped (n * 10 + d)
    twice d = omega arith

    by_digit : (o : Option ℕ) → ((m : ℕ) → option_map capped (decimal_from (capped m) xs) ≡ option_map capped (decimal_from m xs))
        → option_map capped (elim o [ None ↦ None | Some d ↦ decimal_from (capped n * 10 + d) xs ])
        ≡ option_map capped (elim o [ None ↦ None | Some d ↦ decimal_from (n * 10 + d) xs ])
    by_digit None early = refl
    by_digit (Some d) early =
        sym (early (capped n * 10 + d)) ∙ ap (λ m. option_map capped (decimal_from m xs)) (twice d) ∙ early (n * 10 + d)

pub decimal_more : (n d : ℕ) (xs : List ℕ) (i : ℕ) → i < length xs → Some d ≡ decimal_digit (get_or xs i 0)
    → option_map capped (decimal_from (capped (n * 10 + d)) (drop (i + 1) xs)) ≡ option_map capped (decimal_from n (drop i xs))
unfolding decimal_from
decimal_more n d xs i l is =
    capped_early (n * 10 + d) (drop (i + 1) xs)
    ∙ ap (option_map capped) (sym (at_drop_more (decimal_from n) xs i 0 l ∙ rw (← is, decimal_from)))

pub decimal_wrong : (n : ℕ) (xs : List ℕ) (i : ℕ) → i < length xs → None ≡ decimal_digit (get_or xs i 0)
    → decimal_from n (drop i xs) ≡ None
unfolding decimal_from
decimal_wrong n xs i l none = at_drop_more (decimal_from n) xs i 0 l ∙ rw (← none, decimal_from)

pub decimal_all : (n : ℕ) (xs : List ℕ) (i : ℕ) → length xs ≤ i → decimal_from n (drop i xs) ≡ Some n
unfolding decimal_from
decimal_all n xs i l = at_drop_all (decimal_from n) xs i l
