-- Bytes are read as at most one form, the one that is written so.
use Rattle.std.proofs.Common.{◌≡◌, ℕ, zero, suc, ◌≤◌, Bool, true, false, List, [], ◌∷◌, ◌++◌, length, drop, is_some, Some, None, Option, sym, refl, ap, ◌∙◌, subst, append_assoc, append-nil, arith, length-append}
use Rattle.std.proofs.lemmas.List.{drop_at, nil_from_length}
use Rattle.std.proofs.lemmas.Bool.{and_parts, and_from}
use Rattle.message.specs.declared.kind.Kind.{Kind}
use Rattle.message.specs.declared.kind.Symbol.{Symbol}
use Rattle.message.specs.declared.kind.Symbol.TheVariants.{Atom, Variable, Join, Lock, Unused}
use Rattle.message.specs.Bytes.{symbol, is_atom, is_variable, is_locking, stands_for_atom, stands_for_variable}
use borrow.Author.Tests.{clash}
use Rattle.message.specs.Trees.{Tree, atom, variable, joined, locked, proper, write, size, reads, reads_by, reads_lock, and_then, form_of, is_form, Fits, OneReading}
use Rattle.message.proofs.Reading.{reads_step}
use Rattle.message.proofs.Whole.{whole_form, form_whole}

-- what a byte stands for, from the test that it passes
atom_symbol : (s : Symbol) → stands_for_atom s ≡ true → (k : Kind) × (s ≡ Atom k)
atom_symbol (Atom k) e = (k, refl)
atom_symbol (Variable k) e = absurd (clash e)
atom_symbol Join e = absurd (clash e)
atom_symbol Lock e = absurd (clash e)
atom_symbol Unused e = absurd (clash e)

variable_symbol : (s : Symbol) → stands_for_variable s ≡ true → (k : Kind) × (s ≡ Variable k)
variable_symbol (Atom k) e = absurd (clash e)
variable_symbol (Variable k) e = (k, refl)
variable_symbol Join e = absurd (clash e)
variable_symbol Lock e = absurd (clash e)
variable_symbol Unused e = absurd (clash e)

pub size_write : (t : Tree) → length (write t) ≡ size t
size_write (atom b) = refl
size_write (variable b) = refl
size_write (joined x y) = omega (arith, length-append (write x) (write y), size_write x, size_write y)
size_write (locked k x) = omega (arith, size_write x)

-- reading gives back what was written, whatever follows it
pub reads_write : (t : Tree) → proper t ≡ true → (f : ℕ) (rest : List ℕ) → size t ≤ f → reads f (write t ++ rest) ≡ Some t
unfolding is_atom is_variable
reads_write (atom b) e zero rest p = absurd (omega arith)
reads_write (atom b) e (suc f) rest p =
    let is = atom_symbol (symbol b) e in
    reads_step f b rest (Atom is.0) is.1
reads_write (variable b) e zero rest p = absurd (omega arith)
reads_write (variable b) e (suc f) rest p =
    let is = variable_symbol (symbol b) e in
    reads_step f b rest (Variable is.0) is.1
reads_write (joined x y) e zero rest p = absurd (omega arith)
reads_write (joined x y) e (suc f) rest p =
    let fine = and_parts (proper x) (proper y) e in
    let first : reads f ((write x ++ write y) ++ rest) ≡ Some x = ap (reads f) (append_assoc (write x) (write y) rest) ∙ reads_write x fine.0 f (write y ++ rest) (omega arith) in
    let behind : drop (size x) ((write x ++ write y) ++ rest) ≡ write y ++ rest = ap (drop (size x)) (append_assoc (write x) (write y) rest) ∙ drop_at (write x) (write y ++ rest) (size x) (size_write x) in
    let second : reads f (drop (size x) ((write x ++ write y) ++ rest)) ≡ Some y = ap (reads f) behind ∙ reads_write y fine.1 f rest (omega arith) in
    reads_step f 0xF0 ((write x ++ write y) ++ rest) Join refl
    ∙ ap (λ o. and_then o (λ u. and_then (reads f (drop (size u) ((write x ++ write y) ++ rest))) (λ v. Some (joined u v)))) first
    ∙ ap (λ o. and_then o (λ v. Some (joined x v))) second
reads_write (locked k x) e zero rest p = absurd (omega arith)
reads_write (locked k x) e (suc f) rest p =
    let fine = and_parts (is_locking k) (proper x) e in
    reads_step f 0xF1 (k ∷ (write x ++ rest)) Lock refl
    ∙ ap (λ c. elim c as (λ _. Option Tree) [ true ↦ and_then (reads f (write x ++ rest)) (λ x. Some (locked k x)) | false ↦ None ]) fine.0
    ∙ ap (λ o. and_then o (λ x. Some (locked k x))) (reads_write x fine.1 f rest (omega arith))

-- what was read keeps the rules, and is written as the front of the bytes
pub record Front (t : Tree) (bs : List ℕ) : Type 0 where
  pub sound : proper t ≡ true
  pub back : List ℕ
  pub front : write t ++ back ≡ bs

-- the first of two readings in a row was made, and then the second
both_read : {A B : Type 0} (o : Option A) (g : A → Option B) (v : B) → and_then o g ≡ Some v → (x : A) × (o ≡ Some x) × (g x ≡ Some v)
both_read None g v e = let z : ◌≡◌ {A = ℕ} 0 1 = cc in absurd (omega arith)
both_read (Some x) g v e = (x, refl, e)

some_same : {A : Type 0} (x y : A) → ◌≡◌ {A = Option A} (Some x) (Some y) → x ≡ y
some_same x y e = cc

-- the one byte that joins, and the one that locks
join_byte : (b : ℕ) → symbol b ≡ Join → b ≡ 0xF0
join_byte b e = grind arith

lock_byte : (b : ℕ) → symbol b ≡ Lock → b ≡ 0xF1
lock_byte b e = grind arith

module _ (form : List ℕ → Option Tree) (inner : (bs : List ℕ) (t : Tree) → form bs ≡ Some t → Front t bs) where
  atom_front : (b : ℕ) (bs : List ℕ) (k : Kind) → symbol b ≡ Atom k → Front (atom b) (b ∷ bs)
  unfolding is_atom
  atom_front b bs k is = record { sound = ap stands_for_atom is; back = bs; front = refl }

  variable_front : (b : ℕ) (bs : List ℕ) (k : Kind) → symbol b ≡ Variable k → Front (variable b) (b ∷ bs)
  unfolding is_variable
  variable_front b bs k is = record { sound = ap stands_for_variable is; back = bs; front = refl }

  joined_front : (b : ℕ) (bs : List ℕ) (x y : Tree) → b ≡ 0xF0 → Front x bs → Front y (drop (size x) bs) → Front (joined x y) (b ∷ bs)
  joined_front b bs x y is first second =
      let behind : drop (size x) bs ≡ first.back = ap (drop (size x)) (sym first.front) ∙ drop_at (write x) first.back (size x) (size_write x) in
      record {
        sound = and_from (proper x) (proper y) first.sound second.sound;
        back = second.back;
        front = ap (λ l. 0xF0 ∷ l) (append_assoc (write x) (write y) second.back ∙ ap (λ l. write x ++ l) (second.front ∙ behind) ∙ first.front) ∙ ap (λ c. c ∷ bs) (sym is);
      }

  locked_front : (b k : ℕ) (rest : List ℕ) (x : Tree) → b ≡ 0xF1 → is_locking k ≡ true → Front x rest → Front (locked k x) (b ∷ k ∷ rest)
  locked_front b k rest x is key inside = record {
    sound = and_from (is_locking k) (proper x) key inside.sound;
    back = inside.back;
    front = ap (λ l. 0xF1 ∷ k ∷ l) inside.front ∙ ap (λ c. c ∷ k ∷ rest) (sym is);
  }

  lock_front : (b : ℕ) (bs : List ℕ) (t : Tree) → b ≡ 0xF1 → reads_lock bs form ≡ Some t → Front t (b ∷ bs)
  lock_front b [] t is e = let z : ◌≡◌ {A = ℕ} 0 1 = cc in absurd (omega arith)
  lock_front b (k ∷ rest) t is e = go (is_locking k) refl e
    where
      go : (c : Bool) → is_locking k ≡ c → ◌≡◌ {A = Option Tree} (elim c [ true ↦ and_then (form rest) (λ x. Some (locked k x)) | false ↦ None ]) (Some t) → Front t (b ∷ k ∷ rest)
      go true key e =
          let found = both_read (form rest) (λ x. Some (locked k x)) t e in
          subst (λ t. Front t (b ∷ k ∷ rest)) (some_same (locked k found.0) t found.2) (locked_front b k rest found.0 is key (inner rest found.0 found.1))
      go false key e = let z : ◌≡◌ {A = ℕ} 0 1 = cc in absurd (omega arith)

  step_front : (s : Symbol) (b : ℕ) (bs : List ℕ) (t : Tree) → symbol b ≡ s → reads_by s b bs form ≡ Some t → Front t (b ∷ bs)
  step_front (Atom k) b bs t is e = subst (λ t. Front t (b ∷ bs)) (some_same (atom b) t e) (atom_front b bs k is)
  step_front (Variable k) b bs t is e = subst (λ t. Front t (b ∷ bs)) (some_same (variable b) t e) (variable_front b bs k is)
  step_front Join b bs t is e =
      let first = both_read (form bs) (λ x. and_then (form (drop (size x) bs)) (λ y. Some (joined x y))) t e in
      let x = first.0 in
      let second = both_read (form (drop (size x) bs)) (λ y. Some (joined x y)) t first.2 in
      let y = second.0 in
      subst (λ t. Front t (b ∷ bs)) (some_same (joined x y) t second.2) (joined_front b bs x y (join_byte b is) (inner bs x first.1) (inner (drop (size x) bs) y second.1))
  step_front Lock b bs t is e = lock_front b bs t (lock_byte b is) e
  step_front Unused b bs t is e = let z : ◌≡◌ {A = ℕ} 0 1 = cc in absurd (omega arith)

pub reads_front : (f : ℕ) (bs : List ℕ) (t : Tree) → reads f bs ≡ Some t → Front t bs
unfolding reads
reads_front zero bs t e = let z : ◌≡◌ {A = ℕ} 0 1 = cc in absurd (omega arith)
reads_front (suc f) [] t e = let z : ◌≡◌ {A = ℕ} 0 1 = cc in absurd (omega arith)
reads_front (suc f) (b ∷ bs) t e = step_front (reads f) (reads_front f) (symbol b) b bs t refl e

-- writing a form that keeps the rules and reading it gives it back
pub form_write : (t : Tree) → Fits t → form_of (write t) ≡ Some t
form_write t fits =
    let n = size_write t in
    whole_form (write t) t (ap (reads (length (write t))) (sym (append-nil (write t))) ∙ reads_write t fits.sound (length (write t)) [] (omega arith)) (sym n) (omega (arith, fits.short))

-- and bytes are read as no other form than one that is written as these bytes
pub write_form : (bs : List ℕ) (t : Tree) → form_of bs ≡ Some t → Fits t × (write t ≡ bs)
write_form bs t e =
    let found = form_whole bs t e in
    let read = reads_front (length bs) bs t found.0 in
    let none : length read.back ≡ 0 = omega (arith, ap length read.front, length-append (write t) read.back, size_write t, found.1) in
    (record { sound = read.sound; short = omega (arith, found.1, found.2) }, sym (append-nil (write t)) ∙ ap (λ l. write t ++ l) (sym (nil_from_length read.back none)) ∙ read.front)

pub one_reading : OneReading
one_reading = (form_write, write_form)

-- what is tested to be a form is written so by a form that keeps the rules
pub form_written : (bs : List ℕ) → is_form bs ≡ true → (t : Tree) × Fits t × (write t ≡ bs)
form_written bs e = go (form_of bs) refl e
  where
    go : (o : Option Tree) → form_of bs ≡ o → is_some o ≡ true → (t : Tree) × Fits t × (write t ≡ bs)
    go None is e = absurd (clash e)
    go (Some t) is e = let w = write_form bs t is in (t, w.0, w.1)

pub none_written : (bs : List ℕ) → is_form bs ≡ false → (t : Tree) → Fits t → write t ≡ bs → ⊥
none_written bs e t fits is = clash (sym e ∙ ap is_some (ap form_of (sym is) ∙ form_write t fits))
