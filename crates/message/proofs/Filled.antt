-- Filling the bytes of a form fills its tree. Assumes nothing.
use Rattle.std.proofs.Common.{◌≡◌, ℕ, Bool, true, false, List, [], ◌∷◌, ◌++◌, is_some, IfSome, Some, None, Option, sym, refl, ap, ◌∙◌, subst, arith}
use borrow.Author.Tests.{clash}
use Rattle.std.specs.Option.{option_map}
use Rattle.std.proofs.lemmas.Bool.{and_parts, and_from}
use Rattle.message.specs.Bytes.{is_variable, is_locking}
use Rattle.message.specs.Filling.{fitting, filled_byte, filled, fill_tree}
use Rattle.message.specs.Trees.{Tree, atom, variable, joined, locked, proper, write, size, and_then, form_of, is_form, closed, message_of, Fits}
use Rattle.message.proofs.Atoms.{atom_no_variable, of_kind_atom, of_kind_locking}
use Rattle.message.proofs.NoVariable.{closed_on, closed_join}
use Rattle.message.proofs.OneReading.{form_write, write_form}
use Rattle.message.proofs.Reading.{some_under, none_under}

module _ (values : ℕ → Option ℕ) where
  -- what a byte is replaced by, where it is known whether it is a variable
  pub byte_kept : (b : ℕ) → is_variable b ≡ false → filled_byte values b ≡ Some b
  byte_kept b e = ap (λ t. elim t as (λ _. Option ℕ) [ true ↦ values b | false ↦ Some b ]) e

  pub byte_replaced : (b : ℕ) → is_variable b ≡ true → filled_byte values b ≡ values b
  byte_replaced b e = ap (λ t. elim t as (λ _. Option ℕ) [ true ↦ values b | false ↦ Some b ]) e

  -- the two parts of a text are filled one after the other
  filled_join : (xs ys : List ℕ) → filled values (xs ++ ys) ≡ and_then (filled values xs) (λ us. option_map (λ vs. us ++ vs) (filled values ys))
  filled_join [] ys = itself (filled values ys)
    where
      itself : (o : Option (List ℕ)) → o ≡ option_map (λ vs. vs) o
      itself None = refl
      itself (Some vs) = refl
  filled_join (x ∷ xs) ys = ap (λ o. and_then (filled_byte values x) (λ c. option_map (λ cs. c ∷ cs) o)) (filled_join xs ys) ∙ onward (filled_byte values x) (filled values xs) (filled values ys)
    where
      onward : (a : Option ℕ) (o p : Option (List ℕ))
          → and_then a (λ c. option_map (λ cs. c ∷ cs) (and_then o (λ us. option_map (λ vs. us ++ vs) p))) ≡ and_then (and_then a (λ c. option_map (λ cs. c ∷ cs) o)) (λ us. option_map (λ vs. us ++ vs) p)
      onward None o p = refl
      onward (Some c) None p = refl
      onward (Some c) (Some us) None = refl
      onward (Some c) (Some us) (Some vs) = refl

  joined_bytes : (o p : Option Tree) → option_map write (and_then o (λ u. option_map (joined u) p)) ≡ option_map (λ cs. 0xF0 ∷ cs) (and_then (option_map write o) (λ us. option_map (λ vs. us ++ vs) (option_map write p)))
  joined_bytes None p = refl
  joined_bytes (Some u) None = refl
  joined_bytes (Some u) (Some v) = refl

  locked_bytes : (a : Option ℕ) (o : Option Tree) → option_map write (and_then a (λ j. option_map (locked j) o)) ≡ option_map (λ cs. 0xF1 ∷ cs) (and_then a (λ j. option_map (λ cs. j ∷ cs) (option_map write o)))
  locked_bytes None o = refl
  locked_bytes (Some j) None = refl
  locked_bytes (Some j) (Some u) = refl

  atom_bytes : (a : Option ℕ) → option_map write (option_map atom a) ≡ and_then a (λ c. Some (c ∷ []))
  atom_bytes None = refl
  atom_bytes (Some c) = refl

  -- filling the bytes of a form is filling the form
  pub filled_write : (t : Tree) → proper t ≡ true → option_map write (fill_tree values t) ≡ filled values (write t)
  unfolding is_variable
  filled_write (atom b) e = ap (λ a. and_then a (λ c. Some (c ∷ []))) (sym (byte_kept b (atom_no_variable b e)))
  filled_write (variable b) e = atom_bytes (values b) ∙ ap (λ a. and_then a (λ c. Some (c ∷ []))) (sym (byte_replaced b e))
  filled_write (joined x y) e =
      let fine = and_parts (proper x) (proper y) e in
      joined_bytes (fill_tree values x) (fill_tree values y)
      ∙ ap (λ o. option_map (λ cs. 0xF0 ∷ cs) (and_then o (λ us. option_map (λ vs. us ++ vs) (option_map write (fill_tree values y))))) (filled_write x fine.0)
      ∙ ap (λ o. option_map (λ cs. 0xF0 ∷ cs) (and_then (filled values (write x)) (λ us. option_map (λ vs. us ++ vs) o))) (filled_write y fine.1)
      ∙ ap (option_map (λ cs. 0xF0 ∷ cs)) (sym (filled_join (write x) (write y)))
  filled_write (locked k x) e =
      locked_bytes (filled_byte values k) (fill_tree values x)
      ∙ ap (λ o. option_map (λ cs. 0xF1 ∷ cs) (and_then (filled_byte values k) (λ j. option_map (λ cs. j ∷ cs) o))) (filled_write x (and_parts (is_locking k) (proper x) e).1)

-- what a form that keeps the rules is filled to: it keeps them too, is as long, and has no variable
record Kept (t u : Tree) : Type 0 where
  sound : proper u ≡ true
  long : size u ≡ size t
  fixed : closed (write u) ≡ true

-- two forms joined, and a form locked, where their parts are filled
kept_joined : (x y : Tree) (o p : Option Tree) → IfSome o (Kept x) → IfSome p (Kept y) → IfSome (and_then o (λ u. option_map (joined u) p)) (Kept (joined x y))
unfolding is_variable
kept_joined x y None p left right = tt
kept_joined x y (Some u) None left right = tt
kept_joined x y (Some u) (Some v) left right = record {
  sound = and_from (proper u) (proper v) left.sound right.sound;
  long = omega (arith, left.long, right.long);
  fixed = closed_join (write u) (write v) left.fixed right.fixed;
}

kept_locked : (k : ℕ) (x : Tree) (a : Option ℕ) (o : Option Tree) → IfSome a (λ j. (is_locking j ≡ true) × (is_variable j ≡ false)) → IfSome o (Kept x) → IfSome (and_then a (λ j. option_map (locked j) o)) (Kept (locked k x))
unfolding is_variable
kept_locked k x None o key inside = tt
kept_locked k x (Some j) None key inside = tt
kept_locked k x (Some j) (Some u) key inside = record {
  sound = and_from (is_locking j) (proper u) key.0 inside.sound;
  long = omega (arith, inside.long);
  fixed = closed_on j (write u) key.1 ∙ inside.fixed;
}

module _ (values : ℕ → Option ℕ) (fit : (v : ℕ) → fitting v (values v) ≡ true) where
  key_kept : (k : ℕ) → is_locking k ≡ true → IfSome (filled_byte values k) (λ j. (is_locking j ≡ true) × (is_variable j ≡ false))
  key_kept k e = go (is_variable k) refl (values k) (fit k)
    where
      go : (t : Bool) → is_variable k ≡ t → (o : Option ℕ) → fitting k o ≡ true → IfSome (elim t as (λ _. Option ℕ) [ true ↦ o | false ↦ Some k ]) (λ j. (is_locking j ≡ true) × (is_variable j ≡ false))
      go true is None f = tt
      go true is (Some a) f = (of_kind_locking k a f e, atom_no_variable a (of_kind_atom k a f))
      go false is o f = (e, is)

  tree_kept : (t : Tree) → proper t ≡ true → IfSome (fill_tree values t) (Kept t)
  tree_kept (atom b) e = record { sound = e; long = refl; fixed = closed_on b [] (atom_no_variable b e) }
  tree_kept (variable b) e = go (values b) (fit b)
    where
      go : (o : Option ℕ) → fitting b o ≡ true → IfSome (option_map atom o) (Kept (variable b))
      go None f = tt
      go (Some a) f = let is = of_kind_atom b a f in record { sound = is; long = refl; fixed = closed_on a [] (atom_no_variable a is) }
  tree_kept (joined x y) e =
      let fine = and_parts (proper x) (proper y) e in
      kept_joined x y (fill_tree values x) (fill_tree values y) (tree_kept x fine.0) (tree_kept y fine.1)
  tree_kept (locked k x) e =
      let fine = and_parts (is_locking k) (proper x) e in
      kept_locked k x (filled_byte values k) (fill_tree values x) (key_kept k fine.0) (tree_kept x fine.1)

  module _ (bs : List ℕ) (t : Tree) (is : form_of bs ≡ Some t) where
    -- the bytes of the form are filled as the form is
    same_filled : option_map write (fill_tree values t) ≡ filled values bs
    same_filled = let found = write_form bs t is in filled_write values t found.0.sound ∙ ap (filled values) found.1

    -- filled bytes are the one message that the filled form is
    pub filled_form : (cs : List ℕ) → filled values bs ≡ Some cs → (u : Tree) × (fill_tree values t ≡ Some u) × (form_of cs ≡ Some u) × (closed cs ≡ true)
    filled_form cs e =
        let found = some_under write (fill_tree values t) cs (sym (same_filled ∙ e)) in
        let u = found.0 in
        let fits = (write_form bs t is).0 in
        let kept : Kept t u = subst (λ o. IfSome o (Kept t)) found.1 (tree_kept t fits.sound) in
        let new : Fits u = record { sound = kept.sound; short = omega (arith, kept.long, fits.short) } in
        (u, found.1, ap form_of (sym found.2) ∙ form_write u new, ap closed (sym found.2) ∙ kept.fixed)

    -- where the bytes cannot be filled, neither can the form
    pub none_filled : filled values bs ≡ None → fill_tree values t ≡ None
    none_filled e = none_under write (fill_tree values t) (sym (same_filled ∙ e))

  -- the bytes of a form, filled, are a form with no variable
  pub filled_closed : (bs cs : List ℕ) → is_form bs ≡ true → filled values bs ≡ Some cs → (is_form cs ≡ true) × (closed cs ≡ true)
  filled_closed bs cs e full = go (form_of bs) refl e
    where
      go : (o : Option Tree) → form_of bs ≡ o → is_some o ≡ true → (is_form cs ≡ true) × (closed cs ≡ true)
      go None is f = absurd (clash f)
      go (Some t) is f = let found = filled_form bs t is cs full in (ap is_some found.2, found.3)

-- a form with no variable is a message
pub closed_message : (bs : List ℕ) (t : Tree) → form_of bs ≡ Some t → closed bs ≡ true → message_of bs ≡ Some t
closed_message bs t is e = ap (λ c. elim c as (λ _. Option Tree) [ true ↦ form_of bs | false ↦ None ]) e ∙ is
