use Rattle.std.proofs.Common.{◌≡◌, ◌∷◌, ◌-◌, length, get_or, take, drop, Some, refl, sym, ap, ◌∙◌, arith, rules}
use Rattle.std.proofs.lemmas.List.{take_rest}
use Rattle.message.specs.Trees.{Tree, atom, locked, write}
use Rattle.attacker.specs.Shapes.{HasShape}
use Rattle.attacker.specs.declared.shape.Shape.TheVariants.{Joined}
use Rattle.attacker.proofs.Shaping.{at_end, at_atom, at_join, at_lock, at_none, never_unread, halves}
use Rattle.attacker.proofs.shape.shape_of.Goals as goal

pub returns-in-empty-clause-tree : goal.returns-in-empty-clause-tree
returns-in-empty-clause-tree c = λ t form is. at_end c.args.message.now (omega arith) t is

pub returns-in-Atom-clause-tree : goal.returns-in-Atom-clause-tree
returns-in-Atom-clause-tree c = at_atom c.args.message.now c.in-Atom.field-0 (search rules) (λ t. t ≡ atom (get_or c.args.message.now 0 0)) (λ a form is. ap (λ l. atom (get_or l 0 0)) is)

pub returns-in_err-form_length-in-Join-clause-tree : goal.returns-in_err-form_length-in-Join-clause-tree
returns-in_err-form_length-in-Join-clause-tree c =
    let bs = c.args.message.now in
    at_join bs (search rules) (λ t. HasShape t c.from_residual.result)
    (λ x y form is. absurd (never_unread x y form _ (ap (drop 1) is ∙ sym (take_rest bs 1)) c.in_err-form_length-in-Join.ensures.reads))

pub returns-in_ok-form_length-in-Join-clause-tree : goal.returns-in_ok-form_length-in-Join-clause-tree
returns-in_ok-form_length-in-Join-clause-tree c =
    let bs = c.args.message.now in
    at_join bs (search rules) (λ t. HasShape t (Some (Joined c.split_at.result.0 c.split_at.result.1)))
    (λ x y form is.
    let cut = halves x y form _ (ap (drop 1) is ∙ sym (take_rest bs 1)) c.in_ok-form_length-in-Join.field-0 c.in_ok-form_length-in-Join.ensures.reads in
    (x, y, refl, cut.0 ∙ sym c.split_at.ensures.front, cut.1 ∙ sym c.split_at.ensures.back))

pub returns-in-empty-rest-clause-tree : goal.returns-in-empty-rest-clause-tree
returns-in-empty-rest-clause-tree c = at_lock c.args.message.now (search rules) (λ t. ⊥) (λ k x form is. omega (arith, ap length is))

pub returns-in-len1-up-rest-clause-tree : goal.returns-in-len1-up-rest-clause-tree
returns-in-len1-up-rest-clause-tree c =
    let bs = c.args.message.now in
    let rest = take (length bs - 1) (drop 1 bs) in
    at_lock bs (search rules) (λ t. (x : Tree) × (t ≡ locked (get_or rest 0 0) x) × (write x ≡ take (length rest - 1) (drop 1 rest)))
    (λ k x form is.
    let parted : k ∷ write x ≡ rest = ap (drop 1) is ∙ sym (take_rest bs 1) in
    (x, ap (λ l. locked (get_or l 0 0) x) parted, ap (drop 1) parted ∙ sym (take_rest rest 1)))

pub returns-in-Variable-clause-tree : goal.returns-in-Variable-clause-tree
returns-in-Variable-clause-tree c = at_none c.args.message.now _ (search rules) c.in-Variable.is
