use Rattle.std.proofs.Common.{◌≡◌, ◌+◌, ◌*◌, drop, Some, sym, ap, ◌∙◌, arith}
use Rattle.std.proofs.lemmas.Bool.{eqb-false}
use Rattle.std.specs.Option.{option_map}
use Rattle.command.specs.Values.{decimal_from, capped}
use Rattle.command.proofs.Steps.{number_some, decimal_more, decimal_wrong, decimal_all}
use Rattle.command.proofs.decimal.Goals as goal

pub loop-b-init : goal.loop-b-init
loop-b-init c =
    let some = eqb-false _ 0 (sym c.if-is_empty.ensures) in
    (ap (option_map capped) (number_some c.args.digits.now (omega (arith, some))), omega arith)

pub returns-in_err-digit : goal.returns-in_err-digit
returns-in_err-digit c =
    let none = decimal_wrong c.loop-b.n c.args.digits.now c.loop-b.b-index c.loop-b-test.true c.in_err-digit.ensures.value in
    record { value = c.from_residual.ensures ∙ sym (ap (option_map capped) none) ∙ c.loop-b.invariant.0 }

pub loop-b-preserved : goal.loop-b-preserved
loop-b-preserved c =
    let digits = c.args.digits.now in
    let i = c.loop-b.b-index in
    let digit = c.in_ok-digit.digit in
    let sum : c.saturating_add-n.result ≡ capped (c.loop-b.n * 10 + digit) =
    omega (arith, c.saturating_mul.ensures, c.from.ensures) in
    let more =
    decimal_more c.loop-b.n digit digits i c.loop-b-test.true c.in_ok-digit.ensures.value in
    (ap (λ m. option_map capped (decimal_from m (drop (i + 1) digits))) sum ∙ more ∙ c.loop-b.invariant.0, c.saturating_add-n.type_inv)

pub returns : goal.returns
returns c =
    let all = decimal_all c.loop-b.n c.args.digits.now c.loop-b.b-index c.loop-b-test.false in
    let fits : c.loop-b.n ≡ capped c.loop-b.n = omega arith in
    record { value = ap Some fits ∙ sym (ap (option_map capped) all) ∙ c.loop-b.invariant.0 }
