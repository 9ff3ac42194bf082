-- What is kept when a message is taken apart. Assumes nothing.
use Rattle.std.proofs.Common.{◌≡◌, ℕ, ◌<◌, Bool, true, false, ◌&&◌, ◌||◌, eqb, ltb, List, [], ◌∷◌, ◌++◌, Some, None, Option, sym, refl, ap, ◌∙◌, append_assoc, append-nil, arith, lt-ltb}
use mathlib.Core.Bool.{or-false, or_assoc}
use borrow.Author.Tests.{clash}
use Rattle.std.proofs.lemmas.Bool.Decides.{nat_tests}
use Rattle.std.proofs.lemmas.Bool.{and_parts}
use Rattle.message.specs.Bytes.{is_atom, is_variable, is_locking}
use Rattle.message.specs.Trees.{Tree, atom, variable, joined, locked, proper, write, form_of, closed, message_of}
use Rattle.message.proofs.NoVariable.{closed_on}
use Rattle.message.proofs.OneReading.{form_write}
use Rattle.attacker.specs.declared.atoms.Atoms.{Atoms}
use Rattle.attacker.specs.Atoms.{within}
use Rattle.attacker.specs.Derivation.{same_tree, stands, opens, parts}
use Rattle.attacker.specs.Known.{State, atom_known, composites, ClosedForm, Takes}

-- no byte of the whole is a variable, so none of a part is
pub closed_first : (b : ℕ) (bs : List ℕ) → closed (b ∷ bs) ≡ true → (is_variable b ≡ false) × (closed bs ≡ true)
closed_first b bs e = go (is_variable b) refl e
  where
    go : (v : Bool) → is_variable b ≡ v → ◌≡◌ {A = Bool} (elim v [ true ↦ false | false ↦ closed bs ]) true → (is_variable b ≡ false) × (closed bs ≡ true)
    go true is f = absurd (clash f)
    go false is f = (is, f)

closed_parts : (xs ys : List ℕ) → closed (xs ++ ys) ≡ true → (closed xs ≡ true) × (closed ys ≡ true)
closed_parts [] ys e = (refl, e)
closed_parts (x ∷ xs) ys e =
    let first = closed_first x (xs ++ ys) e in
    let rest = closed_parts xs ys first.1 in
    (closed_on x xs first.0 ∙ rest.0, rest.1)

module _ {x y : Tree} (form : ClosedForm (joined x y)) where
  pub left_form : ClosedForm x
  left_form = record {
    fits = record { sound = (and_parts (proper x) (proper y) form.fits.sound).0; short = omega (arith, form.fits.short) };
    fixed = (closed_parts (write x) (write y) (closed_first 0xF0 (write x ++ write y) form.fixed).1).0;
  }

  pub right_form : ClosedForm y
  right_form = record {
    fits = record { sound = (and_parts (proper x) (proper y) form.fits.sound).1; short = omega (arith, form.fits.short) };
    fixed = (closed_parts (write x) (write y) (closed_first 0xF0 (write x ++ write y) form.fixed).1).1;
  }

pub inner_form : {k : ℕ} {x : Tree} → ClosedForm (locked k x) → ClosedForm x
inner_form {k} {x} form = record {
  fits = record { sound = (and_parts (is_locking k) (proper x) form.fits.sound).1; short = omega (arith, form.fits.short) };
  fixed = (closed_first k (write x) (closed_first 0xF1 (k ∷ write x) form.fixed).1).1;
}

-- a form with no variable is a message
pub message_write : (t : Tree) → ClosedForm t → message_of (write t) ≡ Some t
message_write t form = ap (λ c. elim c as (λ _. Option Tree) [ true ↦ form_of (write t) | false ↦ None ]) form.fixed ∙ form_write t form.fits

pub stands_append : (xs ys : List Tree) (t : Tree) → stands (xs ++ ys) t ≡ (stands xs t || stands ys t)
stands_append [] ys t = refl
stands_append (x ∷ xs) ys t = ap (λ c. same_tree x t || c) (stands_append xs ys t) ∙ sym (or_assoc (same_tree x t) (stands xs t) (stands ys t))

pub composites_append : (xs ys : List Tree) → composites (xs ++ ys) ≡ composites xs ++ composites ys
composites_append [] ys = refl
composites_append (atom b ∷ xs) ys = composites_append xs ys
composites_append (variable b ∷ xs) ys = composites_append xs ys
composites_append (joined x y ∷ xs) ys = ap (λ l. write (joined x y) ∷ l) (composites_append xs ys)
composites_append (locked k x ∷ xs) ys = ap (λ l. write (locked k x) ∷ l) (composites_append xs ys)

pub no_variable : {A : Type 0} (v : ℕ) → ClosedForm (variable v) → A
no_variable v form = absurd (clash (sym (closed_first v [] form.fixed).0 ∙ form.fits.sound))

-- an atom is below 128
pub atom_small : (a : ℕ) → is_atom a ≡ true → a < 128
unfolding is_atom
atom_small a e = grind (arith, nat_tests)

-- what may lock is below the two signs
pub locking_small : (a : ℕ) → is_locking a ≡ true → a < 0xF0
unfolding is_locking
locking_small a e = grind (arith, nat_tests)

-- what comes out of a message, from what comes out of its parts
module _ (opened : Atoms) (old new : State) where
  pub takes_atom : (a : ℕ) → ClosedForm (atom a) → new.kept ≡ old.kept → ((b : ℕ) → within new.atoms b ≡ (within old.atoms b || (ltb a 128 && eqb a b))) → Takes opened (atom a) old new
  takes_atom a form same added = record {
    keeps = same ∙ sym (append-nil old.kept);
    learns = λ b. added b ∙ ap (λ c. within old.atoms b || (c && eqb a b)) (lt-ltb a 128 (atom_small a form.fits.sound)) ∙ ap (λ c. within old.atoms b || c) (sym (or-false (eqb a b)));
  }

  -- a joined or locked one is kept itself; `first` is what is known then
  pub takes_joined : (x y : Tree) (first second : State) → first.kept ≡ old.kept ++ write (joined x y) ∷ [] → first.atoms ≡ old.atoms → Takes opened x first second → Takes opened y second new → Takes opened (joined x y) old new
  takes_joined x y first second whole same left right = record {
    keeps =
        right.keeps
        ∙ ap (λ k. k ++ composites (parts (atom_known opened) y)) (left.keeps ∙ ap (λ k. k ++ composites (parts (atom_known opened) x)) whole)
        ∙ simp (append_assoc, composites_append);
    learns = λ b.
        right.learns b
        ∙ ap (λ c. c || stands (parts (atom_known opened) y) (atom b)) (left.learns b ∙ ap (λ a. within a b || stands (parts (atom_known opened) x) (atom b)) same)
        ∙ simp (or_assoc, stands_append);
  }

  -- a lock that opens, and one that stays shut
  pub takes_opened : (k : ℕ) (x : Tree) (first : State) → opens (atom_known opened) k ≡ true → first.kept ≡ old.kept ++ write (locked k x) ∷ [] → first.atoms ≡ old.atoms → Takes opened x first new → Takes opened (locked k x) old new
  takes_opened k x first unlocks whole same inside =
      let out : parts (atom_known opened) (locked k x) ≡ locked k x ∷ parts (atom_known opened) x = ap (λ c. locked k x ∷ elim c as (λ _. List Tree) [ true ↦ parts (atom_known opened) x | false ↦ [] ]) unlocks in
      record {
        keeps =
            inside.keeps
            ∙ ap (λ k. k ++ composites (parts (atom_known opened) x)) whole
            ∙ append_assoc old.kept (write (locked k x) ∷ []) (composites (parts (atom_known opened) x))
            ∙ ap (λ l. old.kept ++ composites l) (sym out);
        learns = λ b. inside.learns b ∙ ap (λ a. within a b || stands (parts (atom_known opened) x) (atom b)) same ∙ ap (λ l. within old.atoms b || stands l (atom b)) (sym out);
      }

  pub takes_shut : (k : ℕ) (x : Tree) → opens (atom_known opened) k ≡ false → new.kept ≡ old.kept ++ write (locked k x) ∷ [] → new.atoms ≡ old.atoms → Takes opened (locked k x) old new
  takes_shut k x shut whole same =
      let out : parts (atom_known opened) (locked k x) ≡ locked k x ∷ [] = ap (λ c. locked k x ∷ elim c as (λ _. List Tree) [ true ↦ parts (atom_known opened) x | false ↦ [] ]) shut in
      record {
        keeps = whole ∙ ap (λ l. old.kept ++ composites l) (sym out);
        learns = λ b. ap (λ a. within a b) same ∙ sym (or-false (within old.atoms b)) ∙ ap (λ l. within old.atoms b || stands l (atom b)) (sym out);
      }
