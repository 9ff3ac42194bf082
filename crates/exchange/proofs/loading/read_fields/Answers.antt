use Rattle.std.proofs.Common.{◌≡◌, suc, ◌+◌, ◌-◌, ◌≤◌, length, take, drop, None, Ok, Err, sym, ap, ◌∙◌, arith, rules}
use Rattle.std.proofs.lemmas.List.{take_rest, length-drop}
use Rattle.std.proofs.lemmas.Result.{err_from_is_err_and, IfOk-at_ok}
use Rattle.exchange.specs.Answers.{outcome_of}
use Rattle.exchange.specs.Checks.{turn, refused, reading}
use Rattle.exchange.specs.Reading.{turned}
use Rattle.exchange.specs.Views.{exchange_of}
use Rattle.exchange.proofs.Rounds.{round_on, round_refused, round_ends, placed_ok, placed_err}
use Rattle.exchange.proofs.loading.read_fields.Goals as goal

-- a field was taken: what that says of the turn, and how many bytes it has
record Took (c : goal.In_ok-tag) : Type 0 where
  turns : turn c.loop-last.last (exchange_of c.loop-last.draft) (drop c.loop-last.at c.args.file.now) ≡ Ok (record { tag = c.in_ok-tag.tag; exchange = exchange_of c.read_field.new.self; size = c.in_ok-tag.size })
  some : 3 ≤ c.in_ok-tag.size
  inside : c.loop-last.at + c.in_ok-tag.size ≤ length c.args.file.now

took : (c : goal.In_ok-tag) → Took c
took c =
    let file = c.args.file.now in
    let at = c.loop-last.at in
    let r = c.read_field.result in
    let came = placed_ok _ r c.map_err.result (c.in_ok-tag.tag, c.in_ok-tag.size) c.map_err.ensures.cases c.in_ok-tag.was in
    let within = IfOk-at_ok (λ t. (3 ≤ t.1) × (t.1 ≤ length (take (length file - at) (drop at file)))) came c.read_field.ensures.within in
    record {
      turns = ap (turn c.loop-last.last (exchange_of c.loop-last.draft)) (sym (take_rest file at)) ∙ (sym c.read_field.ensures.turn ∙ ap (λ q. turned q (exchange_of c.read_field.new.self)) came);
      some = within.0;
      inside = omega (arith, within.1, ap length (take_rest file at), length-drop at file, c.loop-last.invariant.0);
    }

pub loop-last-preserved : goal.loop-last-preserved
loop-last-preserved c =
    let inv = c.loop-last.invariant in
    let t = took c in
    let next = round_on inv.1.0 c.args.file.now c.loop-last.at c.loop-last.last (exchange_of c.loop-last.draft) (record { tag = c.in_ok-tag.tag; exchange = exchange_of c.read_field.new.self; size = c.in_ok-tag.size }) inv.0 inv.1.1 (sym c.loop-last-test.ensures.value) t.turns t.some in
    (t.inside, (next.0, next.1, next.2 ∙ inv.1.2))

pub loop-last-init : goal.loop-last-init
loop-last-init c =
    let len = length c.args.file.now in
    (omega arith, (suc len, omega arith, ap (reading (suc len) c.args.file.now 0 None) c.requires.empty))

pub returns-in_err-tag : goal.returns-in_err-tag
returns-in_err-tag c =
    let file = c.args.file.now in
    let at = c.loop-last.at in
    let inv = c.loop-last.invariant in
    let x = exchange_of c.loop-last.draft in
    let y = exchange_of c.read_field.new.self in
    let e = c.in_err-tag.field-0.0 in
    let p = err_from_is_err_and c.from_residual.result c.from_residual.ensures.1 in
    let q = placed_err _ c.read_field.result c.map_err.result at e (λ stop f h. search rules) c.map_err.ensures.cases c.in_err-tag.was in
    let turns : turn c.loop-last.last x (drop at file) ≡ Err e.stop = ap (turn c.loop-last.last x) (sym (take_rest file at)) ∙ (sym c.read_field.ensures.turn ∙ ap (λ r. turned r y) q.0) in
    record {
      outcome =
          ap (λ r. outcome_of r y) (p.1 ∙ ap Err p.2)
          ∙ (ap (refused e.stop) q.1
          ∙ (round_refused inv.1.0 file at c.loop-last.last x e.stop inv.0 inv.1.1 (sym c.loop-last-test.ensures.value) turns ∙ inv.1.2));
    }

pub returns : goal.returns
returns c =
    let inv = c.loop-last.invariant in
    record { outcome = round_ends inv.1.0 c.args.file.now c.loop-last.at c.loop-last.last (exchange_of c.loop-last.draft) inv.0 inv.1.1 (sym c.loop-last-test.ensures.value) ∙ inv.1.2 }
