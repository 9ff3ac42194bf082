use Rattle.std.proofs.Common.{◌≡◌, true, false, ◌&&◌, ap, ◌∙◌, sym, subst}
use Rattle.attacker.specs.Atoms.{within}
use Rattle.attacker.specs.Derivation.{builds}
use Rattle.attacker.specs.Known.{state_of, known_by, ClosedForm}
use Rattle.attacker.specs.Laws.{has}
use Rattle.attacker.specs.Texts.{texts}
use Rattle.attacker.proofs.Absorbing.{left_form, right_form, inner_form}
use Rattle.attacker.proofs.Asked.{joined_of, locked_of}
use Rattle.attacker.proofs.known.Known.+can_build.Goals as goal
use Rattle.attacker.proofs.known.Known.+can_build.Goals.{then-can_build, else-can_build, then-has, else-has}

pub returns-then-can_build-2 : goal.returns-then-can_build-2
returns-then-can_build-2 t c = record {
  builds = λ u form is.
      let self = c.args.self.now in
      let kept = texts self.parts.items in
      let known = known_by (state_of self) in
      let shape = rw c.in-Some-Joined.field-0-is at (c.in-Some-Joined.ensures.tree u form is) in
      let whole = subst ClosedForm shape.2 form in
      let halves : c.if-can_build.value ≡ (builds known shape.0 && builds known shape.1) =
      elim c.if-can_build.branch [
        | then-can_build w ↦
            w.value-is ∙ w.can_build-then-can_build.ensures.builds shape.1 (right_form whole) shape.4
            ∙ ap (λ b. b && builds known shape.1) (w.if-can_build.ensures.builds shape.0 (left_form whole) shape.3)
        | else-can_build w ↦
            w.value-is ∙ w.if-can_build.false
            ∙ ap (λ b. b && builds known shape.1) (w.if-can_build.ensures.builds shape.0 (left_form whole) shape.3)
      ] in
      c.if-can_build-2.true ∙ joined_of (state_of self) u form true shape.0 shape.1 shape.2 (sym c.if-can_build-2.true ∙ halves);
}

pub returns-else-can_build-2 : goal.returns-else-can_build-2
returns-else-can_build-2 t c = record {
  builds = λ u form is.
      let self = c.args.self.now in
      let kept = texts self.parts.items in
      let known = known_by (state_of self) in
      let shape = rw c.in-Some-Joined.field-0-is at (c.in-Some-Joined.ensures.tree u form is) in
      let whole = subst ClosedForm shape.2 form in
      let halves : c.if-can_build.value ≡ (builds known shape.0 && builds known shape.1) =
      elim c.if-can_build.branch [
        | then-can_build w ↦
            w.value-is ∙ w.can_build-then-can_build.ensures.builds shape.1 (right_form whole) shape.4
            ∙ ap (λ b. b && builds known shape.1) (w.if-can_build.ensures.builds shape.0 (left_form whole) shape.3)
        | else-can_build w ↦
            w.value-is ∙ w.if-can_build.false
            ∙ ap (λ b. b && builds known shape.1) (w.if-can_build.ensures.builds shape.0 (left_form whole) shape.3)
      ] in
      c.stands_among.ensures.value ∙ ap (λ ms. has (texts ms) c.args.part.now) c.deref.ensures.value ∙ ap (has kept) (sym is) ∙ joined_of (state_of self) u form false shape.0 shape.1 shape.2 (sym c.if-can_build-2.false ∙ halves);
}

pub returns-then-can_build-3 : goal.returns-then-can_build-3
returns-then-can_build-3 t c = record {
  builds = λ u form is.
      let self = c.args.self.now in
      let kept = texts self.parts.items in
      let known = known_by (state_of self) in
      let shape = rw c.in-Some-Locked.field-0-is at (c.in-Some-Locked.ensures.tree u form is) in
      let whole = subst ClosedForm shape.1 form in
      let inside : c.if-has.value ≡ (within self.atoms c.in-Some-Locked.key && builds known shape.0) =
      elim c.if-has.branch [
        | then-has w ↦
            w.value-is ∙ w.can_build-then-has.ensures.builds shape.0 (inner_form whole) shape.2
            ∙ ap (λ b. b && builds known shape.0) w.if-has.ensures.value
        | else-has w ↦ w.value-is ∙ w.if-has.false ∙ ap (λ b. b && builds known shape.0) w.if-has.ensures.value
      ] in
      c.if-can_build-3.true ∙ locked_of (state_of self) u form true c.in-Some-Locked.key shape.0 shape.1 (sym c.if-can_build-3.true ∙ inside);
}
