-- What a message is made of, by its first byte. Assumes nothing.
use Rattle.std.proofs.Common.{◌≡◌, ℕ, ◌+◌, ◌<◌, ◌≤◌, ◌⊎◌, List, ◌++◌, length, get_or, take, drop, Some, None, Option, sym, ap, ◌∙◌, arith, length-append}
use Rattle.std.specs.Option.{option_map}
use Rattle.std.proofs.lemmas.List.{take_at, drop_at}
use Rattle.std.proofs.lemmas.Bool.Decides.{nat_tests}
use Rattle.message.specs.declared.kind.Kind.{Kind}
use Rattle.message.specs.declared.kind.Symbol.{Symbol}
use Rattle.message.specs.declared.kind.Symbol.TheVariants.{Atom, Variable, Join, Lock, Unused}
use Rattle.message.specs.Bytes.{symbol, is_atom}
use Rattle.message.specs.Trees.{Tree, atom, variable, joined, locked, write, size, reads}
use Rattle.message.proofs.OneReading.{reads_write, size_write}
use Rattle.attacker.specs.Known.{ClosedForm}
use Rattle.attacker.proofs.Absorbing.{no_variable, left_form}

-- a form with no variable, by its first byte
module _ (bs : List ℕ) where
  pub at_atom : (k : Kind) → symbol (get_or bs 0 0) ≡ Atom k → (P : Tree → Type 0) → ((a : ℕ) → ClosedForm (atom a) → write (atom a) ≡ bs → P (atom a)) → (t : Tree) → ClosedForm t → write t ≡ bs → P t
  at_atom k at P then (atom a) form is = then a form is
  at_atom k at P then (variable v) form is = no_variable v form
  at_atom k at P then (joined x y) form is = let first = ap (λ l. get_or l 0 0) is in absurd (grind (arith, nat_tests))
  at_atom k at P then (locked j x) form is = let first = ap (λ l. get_or l 0 0) is in absurd (grind (arith, nat_tests))

  pub at_join : symbol (get_or bs 0 0) ≡ Join → (P : Tree → Type 0) → ((x y : Tree) → ClosedForm (joined x y) → write (joined x y) ≡ bs → P (joined x y)) → (t : Tree) → ClosedForm t → write t ≡ bs → P t
  unfolding is_atom
  at_join at P then (atom a) form is = let first = ap (λ l. get_or l 0 0) is in absurd (grind (arith, nat_tests))
  at_join at P then (variable v) form is = no_variable v form
  at_join at P then (joined x y) form is = then x y form is
  at_join at P then (locked k x) form is = let first = ap (λ l. get_or l 0 0) is in absurd (grind (arith, nat_tests))

  pub at_lock : symbol (get_or bs 0 0) ≡ Lock → (P : Tree → Type 0) → ((k : ℕ) (x : Tree) → ClosedForm (locked k x) → write (locked k x) ≡ bs → P (locked k x)) → (t : Tree) → ClosedForm t → write t ≡ bs → P t
  unfolding is_atom
  at_lock at P then (atom a) form is = let first = ap (λ l. get_or l 0 0) is in absurd (grind (arith, nat_tests))
  at_lock at P then (variable v) form is = no_variable v form
  at_lock at P then (joined x y) form is = let first = ap (λ l. get_or l 0 0) is in absurd (grind (arith, nat_tests))
  at_lock at P then (locked k x) form is = then k x form is

  -- none begins with a variable or with a byte that is not used
  pub at_none : (s : Symbol) → s ≡ symbol (get_or bs 0 0) → ((k : Kind) × (s ≡ Variable k)) ⊎ (s ≡ Unused) → (t : Tree) → ClosedForm t → write t ≡ bs → ⊥
  unfolding is_atom
  at_none s at other (atom a) form is = let first = ap (λ l. get_or l 0 0) is in grind (arith, nat_tests)
  at_none s at other (variable v) form is = no_variable v form
  at_none s at other (joined x y) form is = let first = ap (λ l. get_or l 0 0) is in grind (arith, nat_tests)
  at_none s at other (locked k x) form is = let first = ap (λ l. get_or l 0 0) is in grind (arith, nat_tests)

  -- none is empty
  pub at_end : length bs < 1 → (t : Tree) → write t ≡ bs → ⊥
  at_end short (atom a) is = omega (arith, ap length is)
  at_end short (variable v) is = omega (arith, ap length is)
  at_end short (joined x y) is = omega (arith, ap length is)
  at_end short (locked k x) is = omega (arith, ap length is)

-- r is the length of the form at the front of bs, whatever depth of reading is enough
abbrev pub Says : List ℕ → Option ℕ → Type 0
Says bs r = (f : ℕ) → length bs ≤ f → r ≡ option_map size (reads f bs)

-- the left half of a joined form is what the reader reads of the two
module _ (x y : Tree) (form : ClosedForm (joined x y)) (rest : List ℕ) (is : write x ++ write y ≡ rest) where
  left_size : (r : Option ℕ) → Says rest r → r ≡ Some (size x)
  left_size r says =
      let long : length rest ≡ size x + size y = ap length (sym is) ∙ length-append (write x) (write y) ∙ (λ i. size_write x i + size_write y i) in
      says (length rest) (omega arith)
      ∙ ap (λ l. option_map size (reads (length rest) l)) (sym is)
      ∙ ap (option_map size) (reads_write x (left_form form).fits.sound (length rest) (write y) (omega arith))

  pub never_unread : Says rest None → ⊥
  never_unread says = let same = left_size None says in cc

  pub halves : (n : ℕ) → Says rest (Some n) → (write x ≡ take n rest) × (write y ≡ drop n rest)
  halves n says =
      let same = left_size (Some n) says in
      let long : length (write x) ≡ n = size_write x ∙ (cc) in
      (sym (ap (take n) (sym is) ∙ take_at (write x) (write y) n long), sym (ap (drop n) (sym is) ∙ drop_at (write x) (write y) n long))
