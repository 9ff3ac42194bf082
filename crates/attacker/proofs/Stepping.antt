-- What is known after one message is taken apart, from what was known before. Assumes nothing.
use Rattle.std.proofs.Common.{◌≡◌, ℕ, true, ◌&&◌, ◌||◌, ◌⊎◌, List, ◌++◌, Some, sym, refl, arith, ◌∙◌, subst, inl, inr}
use borrow.Author.Tests.{clash}
use Rattle.std.proofs.lemmas.Bool.Decides.{nat_tests}
use Rattle.std.proofs.lemmas.Bool.{or_cases, or_left, or_right, and_parts, and_from}
use Rattle.message.specs.Bytes.{inverse_of}
use Rattle.message.specs.Trees.{Tree, atom, variable, joined, locked, write}
use Rattle.attacker.specs.declared.atoms.Atoms.{Atoms}
use Rattle.attacker.specs.Atoms.{within}
use Rattle.attacker.specs.Derivation.{Derivable, stands, parts}
use Rattle.attacker.specs.Known.{State, atom_known, fitting, known_by, composites, ClosedForm, Takes, Open, Inside, Parted}
use Rattle.attacker.specs.Laws.{has}
use Rattle.attacker.proofs.Absorbing.{no_variable}
use Rattle.attacker.specs.Closing.{parts_whole, parts_closed, parts_derived, opens_from}
use Rattle.attacker.proofs.Kept.{form_fits, fits_form, has_before, has_behind, has_either, parts_forms, stands_kept, kept_stands}

module _ (opened : Atoms) (t : Tree) (form : ClosedForm t) (old new : State) (took : Takes opened t old new) where
  kept_is : new.kept ≡ old.kept ++ composites (parts (atom_known opened) t)
  kept_is = took.keeps

  atoms_are : (b : ℕ) → within new.atoms b ≡ (within old.atoms b || stands (parts (atom_known opened) t) (atom b))
  atoms_are = took.learns

  -- what was known is known still
  pub known_still : (u : Tree) → known_by old u ≡ true → known_by new u ≡ true
  known_still (atom b) h = atoms_are b ∙ or_left (within old.atoms b) (stands (parts (atom_known opened) t) (atom b)) h
  known_still (variable b) h = h
  known_still (joined x y) h = rw kept_is (grind (arith, nat_tests, has_before old.kept (composites (parts (atom_known opened) t)) (write (joined x y))))
  known_still (locked k x) h = rw kept_is (grind (arith, nat_tests, has_before old.kept (composites (parts (atom_known opened) t)) (write (locked k x))))

  -- what came out is known
  new_text : (u : Tree) → ClosedForm u → has (composites (parts (atom_known opened) t)) (write u) ≡ true → (fitting u && has new.kept (write u)) ≡ true
  new_text u f h = rw kept_is (grind (arith, nat_tests, form_fits u f, has_behind old.kept (composites (parts (atom_known opened) t)) (write u) h))

  pub out_known : (u : Tree) → stands (parts (atom_known opened) t) u ≡ true → known_by new u ≡ true
  out_known (atom b) h = atoms_are b ∙ or_right (within old.atoms b) (stands (parts (atom_known opened) t) (atom b)) h
  out_known (variable b) h = no_variable b (parts_forms (atom_known opened) t form (variable b) h)
  out_known (joined x y) h = new_text (joined x y) (parts_forms (atom_known opened) t form (joined x y) h) (stands_kept (parts (atom_known opened) t) (joined x y) tt h)
  out_known (locked k x) h = new_text (locked k x) (parts_forms (atom_known opened) t form (locked k x) h) (stands_kept (parts (atom_known opened) t) (locked k x) tt h)

  -- and nothing else is
  either_text : (u : Tree) → (fitting u && has new.kept (write u)) ≡ true → ((fitting u && has old.kept (write u)) ≡ true) ⊎ (stands (parts (atom_known opened) t) u ≡ true)
  either_text u h =
      let p = and_parts (fitting u) (has new.kept (write u)) h in
      elim (has_either old.kept (composites (parts (atom_known opened) t)) (write u) (subst (λ l. has l (write u) ≡ true) kept_is p.1)) [
        | inl e ↦ inl (and_from (fitting u) (has old.kept (write u)) p.0 e)
        | inr e ↦ inr (kept_stands (parts (atom_known opened) t) (parts_forms (atom_known opened) t form) u (fits_form u p.0).fits.sound e)
      ]

  pub known_or_out : (u : Tree) → known_by new u ≡ true → (known_by old u ≡ true) ⊎ (stands (parts (atom_known opened) t) u ≡ true)
  known_or_out (atom b) h = or_cases (within old.atoms b) (stands (parts (atom_known opened) t) (atom b)) (sym (atoms_are b) ∙ h)
  known_or_out (variable b) h = inl h
  known_or_out (joined x y) h = either_text (joined x y) h
  known_or_out (locked k x) h = either_text (locked k x) h

  -- the whole message is known
  pub whole_known : known_by new t ≡ true
  whole_known = out_known t (parts_whole (atom_known opened) t)

  -- what a lock that is kept now holds is known, if an opened atom opens it
  pub out_open : (k j : ℕ) (x : Tree) → stands (parts (atom_known opened) t) (locked k x) ≡ true → inverse_of k ≡ Some j → within opened j ≡ true → known_by new x ≡ true
  out_open k j x h inv op = out_known x (parts_closed (atom_known opened) t (locked k x) x (opens_from (atom_known opened) k j inv op, refl) h)

  -- the locks kept now are open
  pub kept_open : Open opened (composites (parts (atom_known opened) t)) (known_by new)
  kept_open k j x f h inv op = out_open k j x (kept_stands (parts (atom_known opened) t) (parts_forms (atom_known opened) t form) (locked k x) f.fits.sound h) inv op

  -- what is known stays justified, where the message is derivable and the opened atoms are known
  pub justified_on : (heard : List (List ℕ)) → ((u : Tree) → known_by old u ≡ true → Derivable heard u) → Inside opened old.atoms → Derivable heard t → (u : Tree) → known_by new u ≡ true → Derivable heard u
  justified_on heard before ins derived u h = elim (known_or_out u h) [ inl e ↦ before u e | inr e ↦ parts_derived heard (atom_known opened) atom_derived t derived u e ]
    where
      atom_derived : (u : Tree) → atom_known opened u ≡ true → Derivable heard u
      atom_derived (atom b) h = before (atom b) (ins b h)
      atom_derived (variable b) h = absurd (clash h)
      atom_derived (joined x y) h = absurd (clash h)
      atom_derived (locked k x) h = absurd (clash h)

  -- the halves of what is known stay known
  pub left_on : ((x y : Tree) → known_by old (joined x y) ≡ true → known_by old x ≡ true) → (x y : Tree) → known_by new (joined x y) ≡ true → known_by new x ≡ true
  left_on before x y h = elim (known_or_out (joined x y) h) [ inl e ↦ known_still x (before x y e) | inr e ↦ out_known x (parts_closed (atom_known opened) t (joined x y) x (inl refl) e) ]

  pub right_on : ((x y : Tree) → known_by old (joined x y) ≡ true → known_by old y ≡ true) → (x y : Tree) → known_by new (joined x y) ≡ true → known_by new y ≡ true
  right_on before x y h = elim (known_or_out (joined x y) h) [ inl e ↦ known_still y (before x y e) | inr e ↦ out_known y (parts_closed (atom_known opened) t (joined x y) y (inr refl) e) ]

  -- knowledge that is parted stays so
  pub parted_on : (heard : List (List ℕ)) → Parted heard (known_by old) → Inside opened old.atoms → Derivable heard t → Parted heard (known_by new)
  parted_on heard before ins derived = record {
    justified = justified_on heard before.justified ins derived;
    hears = λ m u h e. known_still u (before.hears m u h e);
    parts_left = left_on before.parts_left;
    parts_right = right_on before.parts_right;
  }
