-- What is built of a message's parts. Assumes nothing.
use Rattle.std.proofs.Common.{◌≡◌, ℕ, Bool, true, ◌&&◌, ◌||◌, ◌∷◌, sym, ap, ◌∙◌, subst, arith}
use mathlib.Core.Bool.{or_comm}
use Rattle.std.proofs.lemmas.Bool.Decides.{nat_tests}
use Rattle.std.proofs.lemmas.Bool.{and_parts}
use Rattle.message.specs.Bytes.{is_variable, is_locking, is_key}
use Rattle.message.specs.Trees.{Tree, joined, locked, proper, write}
use Rattle.attacker.specs.Atoms.{within}
use Rattle.attacker.specs.Derivation.{builds}
use Rattle.attacker.specs.Known.{State, known_by, ClosedForm}
use Rattle.attacker.specs.Laws.{has}
use Rattle.attacker.proofs.Absorbing.{closed_first}
use Rattle.attacker.proofs.Kept.{form_fits}

-- what locks a form with no variable is a key
lock_key : (k : ℕ) (x : Tree) → ClosedForm (locked k x) → is_key k ≡ true
unfolding is_key is_locking is_variable
lock_key k x form =
    let locks = (and_parts (is_locking k) (proper x) form.fits.sound).0 in
    let fixed = (closed_first k (write x) (closed_first 0xF1 (k ∷ write x) form.fixed).1).0 in
    grind (arith, nat_tests)

-- a message is built of its parts, where c says whether it can be, or stands among the kept texts
module _ (known : State) (t : Tree) (form : ClosedForm t) (c : Bool) where
  -- a joined one of its halves
  pub joined_of : (x y : Tree) → t ≡ joined x y → c ≡ (builds (known_by known) x && builds (known_by known) y) → (c || has known.kept (write t)) ≡ builds (known_by known) t
  joined_of x y is halves =
      let fits = sym (form_fits (joined x y) (subst ClosedForm is form)) in
      or_comm c (has known.kept (write t))
      ∙ (λ i. has known.kept (write (is i)) || halves i)
      ∙ ap (λ f. (f && has known.kept (write (joined x y))) || (builds (known_by known) x && builds (known_by known) y)) fits
      ∙ sym (ap (builds (known_by known)) is)

  -- a locked one with a key that is known
  pub locked_of : (k : ℕ) (x : Tree) → t ≡ locked k x → c ≡ (within known.atoms k && builds (known_by known) x) → (c || has known.kept (write t)) ≡ builds (known_by known) t
  locked_of k x is inside =
      let whole = subst ClosedForm is form in
      let fits = sym (form_fits (locked k x) whole) in
      let key = sym (lock_key k x whole) in
      or_comm c (has known.kept (write t))
      ∙ (λ i. has known.kept (write (is i)) || inside i)
      ∙ (λ i. (fits i && has known.kept (write (locked k x))) || ((key i && within known.atoms k) && builds (known_by known) x))
      ∙ sym (ap (builds (known_by known)) is)
