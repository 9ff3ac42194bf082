use Rattle.std.proofs.Common.{◌≡◌, ℕ, ◌+◌, List, [], ◌∷◌, ◌++◌, length, true, is_some, refl, sym, ap, ◌∙◌, subst, arith, length-append}
use Rattle.message.specs.Trees.{Tree, joined, locked, write, is_message}
use Rattle.attacker.specs.Known.{State, state_of, signs, ClosedForm, Takes}
use Rattle.attacker.proofs.Absorbing.{left_form, right_form, inner_form, message_write, takes_atom, takes_joined, takes_opened, takes_shut}
use Rattle.attacker.proofs.Weighing.{signs_append}
use Rattle.attacker.proofs.known.Known.+absorb.Goals as goal

-- the signs and the bytes of two halves
halves : (bs left right : List ℕ) → bs ≡ 0xF0 ∷ (left ++ right) → (signs bs ≡ 1 + (signs left + signs right)) × (length bs ≡ 1 + (length left + length right))
halves bs left right cut = (omega (arith, ap signs cut, signs_append left right), omega (arith, ap length cut, length-append left right))

pub absorb-requires : goal.absorb-requires
absorb-requires t c =
    let both = halves c.args.part.now c.in-Some-Joined.left.now c.in-Some-Joined.right.now (rw c.in-Some-Joined.field-0-is at c.in-Some-Joined.ensures.cut) in
    (omega arith, omega (arith, c.requires.room, c.keep.ensures.few))

pub absorb-requires-in-Some-Joined : goal.absorb-requires-in-Some-Joined
absorb-requires-in-Some-Joined t c =
    let both = halves c.args.part.now c.in-Some-Joined.left.now c.in-Some-Joined.right.now (rw c.in-Some-Joined.field-0-is at c.in-Some-Joined.ensures.cut) in
    (omega arith, omega (arith, c.requires.room, c.keep.ensures.few, c.absorb.ensures.few))

pub returns-in-Some-Joined-clause-few : goal.returns-in-Some-Joined-clause-few
returns-in-Some-Joined-clause-few t c =
    let both = halves c.args.part.now c.in-Some-Joined.left.now c.in-Some-Joined.right.now (rw c.in-Some-Joined.field-0-is at c.in-Some-Joined.ensures.cut) in
    omega (arith, c.keep.ensures.few, c.absorb.ensures.few, c.absorb-in-Some-Joined.ensures.few)

pub returns-in-Some-Atom-clause-absorbs : goal.returns-in-Some-Atom-clause-absorbs
returns-in-Some-Atom-clause-absorbs t c = λ u form is.
    let old = state_of c.args.self.now in
    let new : State = record { atoms = c.add.new.self; kept = old.kept } in
    let shape = rw c.in-Some-Atom.field-0-is at (c.in-Some-Atom.ensures.tree u form is) in
    subst (λ v. Takes c.args.opened v old new) (sym shape) (takes_atom c.args.opened old new c.in-Some-Atom.atom (subst ClosedForm shape form) refl c.add.ensures.members)

-- a form with no variable is kept
kept_whole : (u v : Tree) (part : List ℕ) (old new : State) → ClosedForm u → write u ≡ part → u ≡ v → (is_message part ≡ true → new.kept ≡ old.kept ++ part ∷ []) → new.kept ≡ old.kept ++ write v ∷ []
kept_whole u v part old new form is same keeps = keeps (ap is_message (sym is) ∙ ap is_some (message_write u form)) ∙ ap (λ l. old.kept ++ l ∷ []) (sym is ∙ ap write same)

pub returns-in-Some-Joined-clause-absorbs : goal.returns-in-Some-Joined-clause-absorbs
returns-in-Some-Joined-clause-absorbs t c = λ u form is.
    let old = state_of c.args.self.now in
    let first = state_of c.keep.new.self in
    let new = state_of c.absorb-in-Some-Joined.new.self in
    let shape = rw c.in-Some-Joined.field-0-is at (c.in-Some-Joined.ensures.tree u form is) in
    let whole = subst ClosedForm shape.2 form in
    subst (λ v. Takes c.args.opened v old new) (sym shape.2)
    (takes_joined c.args.opened old new shape.0 shape.1 first (state_of c.absorb.new.self) (kept_whole u (joined shape.0 shape.1) c.args.part.now old first form is shape.2 c.keep.ensures.kept) c.keep.ensures.atoms
    (c.absorb.ensures.absorbs shape.0 (left_form whole) shape.3) (c.absorb-in-Some-Joined.ensures.absorbs shape.1 (right_form whole) shape.4))

pub returns-then-opens_lock-clause-absorbs : goal.returns-then-opens_lock-clause-absorbs
returns-then-opens_lock-clause-absorbs t c = λ u form is.
    let old = state_of c.args.self.now in
    let first = state_of c.keep-in-Some-Locked.new.self in
    let new = state_of c.absorb-then-opens_lock.new.self in
    let key = c.in-Some-Locked.key in
    let shape = rw c.in-Some-Locked.field-0-is at (c.in-Some-Locked.ensures.tree u form is) in
    subst (λ v. Takes c.args.opened v old new) (sym shape.1)
    (takes_opened c.args.opened old new key shape.0 first (sym c.if-opens_lock.ensures.value) (kept_whole u (locked key shape.0) c.args.part.now old first form is shape.1 c.keep-in-Some-Locked.ensures.kept) c.keep-in-Some-Locked.ensures.atoms
    (c.absorb-then-opens_lock.ensures.absorbs shape.0 (inner_form (subst ClosedForm shape.1 form)) shape.2))

pub returns-else-opens_lock-clause-absorbs : goal.returns-else-opens_lock-clause-absorbs
returns-else-opens_lock-clause-absorbs t c = λ u form is.
    let old = state_of c.args.self.now in
    let new = state_of c.keep-in-Some-Locked.new.self in
    let key = c.in-Some-Locked.key in
    let shape = rw c.in-Some-Locked.field-0-is at (c.in-Some-Locked.ensures.tree u form is) in
    subst (λ v. Takes c.args.opened v old new) (sym shape.1)
    (takes_shut c.args.opened old new key shape.0 (sym c.if-opens_lock.ensures.value) (kept_whole u (locked key shape.0) c.args.part.now old new form is shape.1 c.keep-in-Some-Locked.ensures.kept) c.keep-in-Some-Locked.ensures.atoms)
