use Rattle.std.proofs.Common.{◌-◌, ◌∷◌, ◌++◌, [], length, take, drop, Err, sym, ap, ◌∙◌, arith}
use Rattle.std.proofs.lemmas.List.{length-drop, length_push, take_rest}
use Rattle.std.proofs.lemmas.Result.{err_from_is_err_and}
use Rattle.exchange.specs.Checks.{then, bindings_of}
use Rattle.exchange.specs.Reading.{read_starts}
use Rattle.exchange.specs.Roles.{role_of}
use Rattle.exchange.specs.Rules.{atoms_of}
use Rattle.exchange.specs.Sessions.{binding_of, starts_in}
use Rattle.exchange.specs.Views.{exchange_of}
use Rattle.exchange.proofs.Pairing.{pair_more, pair_none}
use Rattle.exchange.proofs.exchange.Exchange.read_bindings.Goals as goal

pub returns-in_err-binding-clause-value : goal.returns-in_err-binding-clause-value
returns-in_err-binding-clause-value c =
    let atoms = atoms_of (exchange_of c.args.self.now) in
    let steps = role_of c.args.role.now in
    let left = c.loop-left.left.now in
    let got = starts_in c.loop-left.session in
    let p = err_from_is_err_and c.from_residual.result c.from_residual.ensures.1 in
    ap read_starts (p.1 ∙ ap Err p.2)
    ∙ (ap (λ r. then r (λ b. bindings_of atoms steps (got ++ b ∷ []) (take (length left - 2) (drop 2 left)))) c.in_err-binding.ensures.value
    ∙ (sym (pair_more atoms steps got left c.in-len2-up.len_at_least) ∙ c.loop-left.invariant.0))

pub loop-left-preserved : goal.loop-left-preserved
loop-left-preserved c =
    let atoms = atoms_of (exchange_of c.args.self.now) in
    let steps = role_of c.args.role.now in
    let left = c.loop-left.left.now in
    let got = starts_in c.loop-left.session in
    let b = binding_of c.in_ok-binding.binding in (
      ap (λ l. bindings_of atoms steps l (take (length left - 2) (drop 2 left))) c.add.ensures.starts
          ∙ (ap (λ r. then r (λ b. bindings_of atoms steps (got ++ b ∷ []) (take (length left - 2) (drop 2 left)))) c.in_ok-binding.ensures.value
          ∙ (sym (pair_more atoms steps got left c.in-len2-up.len_at_least) ∙ c.loop-left.invariant.0)),
      c.add.ensures.role ∙ c.loop-left.invariant.1,
      omega (arith, c.loop-left.invariant.2, ap length c.add.ensures.starts, length_push got b, ap length (take_rest left 2), length-drop 2 left, c.in-len2-up.len_at_least),
    )

pub returns-clause-value : goal.returns-clause-value
returns-clause-value c = sym (pair_none (atoms_of (exchange_of c.args.self.now)) (role_of c.args.role.now) (starts_in c.loop-left.session) c.loop-left.left.now (omega (arith, c.in_default.len_below))) ∙ c.loop-left.invariant.0
