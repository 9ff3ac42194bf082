use Rattle.std.proofs.Common.{◌≡◌, ℕ, Bool, true, false, Some, refl, sym, ◌∙◌}
use borrow.Author.Tests.{clash}
use Rattle.std.proofs.lemmas.List.{length-set}
use Rattle.message.specs.Bytes.{is_variable}
use Rattle.message.specs.Filling.{of_kind}
use Rattle.message.proofs.Atoms.{of_kind_variable}
use Rattle.message.proofs.Binding.{set_fits, set_there}
use Rattle.message.proofs.values.Values.bind.Goals as goal

pub invariant_of-self : goal.invariant_of-self
invariant_of-self c =
    let values = c.args.self.now in
    let is = c.in-Some.ensures.place in
    record {
      whole = length-set values.atoms c.in-Some.place (Some c.args.atom) ∙ values.whole;
      fit = set_fits values.atoms values.whole c.args.variable c.in-Some.place is.0 is.1 (Some c.args.atom) (sym c.if-fits_kind.ensures.value) values.fit;
    }

pub returns-in-Some-clause-others : goal.returns-in-Some-clause-others
returns-in-Some-clause-others c =
    let values = c.args.self.now in
    let is = c.in-Some.ensures.place in
    set_there values.atoms values.whole c.args.variable c.in-Some.place is.0 is.1 (Some c.args.atom)

-- what is no variable is of no kind
no_kind : (v a : ℕ) → is_variable v ≡ false → (t : Bool) → of_kind v a ≡ t → false ≡ t
no_kind v a none true e = absurd (clash (sym none ∙ of_kind_variable v a e))
no_kind v a none false e = refl

pub returns-in_default-2-clause-answer : goal.returns-in_default-2-clause-answer
returns-in_default-2-clause-answer c = no_kind c.args.variable c.args.atom c.in_default.ensures.place (of_kind c.args.variable c.args.atom) refl
