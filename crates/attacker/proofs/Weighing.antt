-- The room that kept texts take, as more locks open. Assumes nothing.
use Rattle.std.proofs.Common.{◌≡◌, ℕ, ◌+◌, ◌<◌, ◌≤◌, true, false, List, [], ◌∷◌, ◌++◌, length, refl, ap, arith}
use borrow.Author.Tests.{clash}
use Rattle.std.proofs.lemmas.Bool.Decides.{nat_tests}
use Rattle.std.proofs.lemmas.Bool.{and_parts}
use Rattle.message.specs.Bytes.{is_locking}
use Rattle.message.specs.Trees.{Tree, atom, variable, joined, locked, proper, write}
use Rattle.attacker.specs.declared.atoms.Atoms.{Atoms}
use Rattle.attacker.specs.Derivation.{opens, parts}
use Rattle.attacker.specs.Known.{atom_known, composites, sign, signs, weight, weights, opens_now, ClosedForm, Inside}
use Rattle.attacker.proofs.Absorbing.{atom_small, locking_small, no_variable, left_form, right_form, inner_form, composites_append}
use Rattle.attacker.specs.Closing.{opens_from, opens_by}

-- how many signs two texts have together
pub signs_append : (xs ys : List ℕ) → signs (xs ++ ys) ≡ signs xs + signs ys
signs_append [] ys = omega arith
signs_append (x ∷ xs) ys = omega (arith, signs_append xs ys)

pub small_sign : (b : ℕ) → b < 0xF0 → sign b ≡ 0
small_sign b h = grind (arith, nat_tests)

-- each kept text takes room
pub weight_one : (opened : Atoms) (m : List ℕ) → 1 ≤ weight opened m
weight_one opened [] = omega arith
weight_one opened (b ∷ []) = omega arith
weight_one opened (b ∷ k ∷ bs) = grind (arith, nat_tests)

pub weights_long : (opened : Atoms) (ms : List (List ℕ)) → length ms ≤ weights opened ms
weights_long opened [] = omega arith
weights_long opened (m ∷ ms) = omega (arith, weight_one opened m, weights_long opened ms)

pub weights_append : (opened : Atoms) (xs ys : List (List ℕ)) → weights opened (xs ++ ys) ≡ weights opened xs + weights opened ys
weights_append opened [] ys = omega arith
weights_append opened (x ∷ xs) ys = omega (arith, weights_append opened xs ys)

-- a text weighs the same where no lock opens
pub weight_same : (opened wider : Atoms) → Inside opened wider → (m : List ℕ) → opens_now opened wider m ≡ false → weight opened m ≡ weight wider m
weight_same opened wider ins [] h = refl
weight_same opened wider ins (b ∷ []) h = refl
weight_same opened wider ins (b ∷ k ∷ bs) h =
    let still : opens (atom_known opened) k ≡ true → opens (atom_known wider) k ≡ true = λ e. let by = opens_by (atom_known opened) k e in opens_from (atom_known wider) k by.0 by.1 (ins by.0 by.2) in
    grind (arith, nat_tests)

-- a lock that opens now weighed all its parts, and weighs one
pub weight_opens : (opened wider : Atoms) (m : List ℕ) → opens_now opened wider m ≡ true → (weight opened m ≡ signs m) × (weight wider m ≡ 1)
weight_opens opened wider [] h = absurd (clash h)
weight_opens opened wider (b ∷ []) h = absurd (clash h)
weight_opens opened wider (b ∷ k ∷ bs) h = (grind (arith, nat_tests), grind (arith, nat_tests))

weight_join : (opened : Atoms) (rest : List ℕ) → weight opened (0xF0 ∷ rest) ≡ 1
weight_join opened [] = refl
weight_join opened (k ∷ rest) = refl

-- the byte in the lock is no sign
pub lock_sign : (k : ℕ) (x : Tree) → ClosedForm (locked k x) → sign k ≡ 0
lock_sign k x form = small_sign k (locking_small k (and_parts (is_locking k) (proper x) form.fits.sound).0)

-- what comes out of a message weighs what the message has of parts
pub weights_parts : (opened : Atoms) (t : Tree) → ClosedForm t → weights opened (composites (parts (atom_known opened) t)) ≡ signs (write t)
weights_parts opened (atom b) form = omega (arith, small_sign b (omega (arith, atom_small b form.fits.sound)))
weights_parts opened (variable b) form = no_variable b form
weights_parts opened (joined x y) form =
    let ps = parts (atom_known opened) in
    omega (
      arith,
      weight_join opened (write x ++ write y),
      ap (weights opened) (composites_append (ps x) (ps y)),
      weights_append opened (composites (ps x)) (composites (ps y)),
      weights_parts opened x (left_form form),
      weights_parts opened y (right_form form),
      signs_append (write x) (write y),
    )
weights_parts opened (locked k x) form = grind (arith, nat_tests, weights_parts opened x (inner_form form), lock_sign k x form)
