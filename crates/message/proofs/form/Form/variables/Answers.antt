use Rattle.std.proofs.Common.{ℕ, ◌<◌, ◌≤◌, length, get_or, sym, ap, ◌∙◌, subst, arith}
use Rattle.message.specs.declared.form.Form.{Form}
use Rattle.message.specs.declared.row.Row.{Row}
use Rattle.message.specs.Forms.{text}
use Rattle.message.specs.Rows.{items_in}
use Rattle.message.specs.Variables.{noted, InOrder}
use Rattle.message.proofs.Firsts.{firsts_in_order, noted_bounds}
use Rattle.message.proofs.FirstsLoop.{FoundTo, found_more, found_all}
use Rattle.message.proofs.OneValue.{text_short}
use Rattle.message.proofs.Pushing.{taken}
use Rattle.message.proofs.form.Form.variables.Goals as goal

-- the names found before a byte of the form leave room for it
room : (form : Form) (names : Row ℕ 24) (i b : ℕ) → FoundTo (text form) names i → i < length (text form) → length (noted (items_in names) b) ≤ 24
room form names i b so h = omega (arith, so.behind, noted_bounds (items_in names) b, text_short form)

pub unwrap-requires : goal.unwrap-requires
unwrap-requires c =
    let i = c.loop-byte.byte-index in
    let b = get_or c.bytes-byte-items.result.now i 0 in
    let h = subst (λ bs. i < length bs) c.bytes-byte-items.ensures.value c.loop-byte-test.true in
    (taken c.loop-byte.names c.note.new.self b c.note.result (room c.args.self.now c.loop-byte.names i b c.loop-byte.invariant h) c.note.ensures.noted).0

pub loop-byte-preserved : goal.loop-byte-preserved
loop-byte-preserved c =
    let i = c.loop-byte.byte-index in
    let b = get_or c.bytes-byte-items.result.now i 0 in
    let same = c.bytes-byte-items.ensures.value in
    let h = subst (λ bs. i < length bs) same c.loop-byte-test.true in
    let more = (taken c.loop-byte.names c.note.new.self b c.note.result (room c.args.self.now c.loop-byte.names i b c.loop-byte.invariant h) c.note.ensures.noted).1 in
    found_more (text c.args.self.now) c.loop-byte.names i c.loop-byte.invariant h c.note.new.self
    (more ∙ ap (λ bs. noted (items_in c.loop-byte.names) (get_or bs i 0)) same) c.note.ensures.rest

pub returns-clause-in_order : goal.returns-clause-in_order
returns-clause-in_order c =
    let bs = text c.args.self.now in
    let all = subst (λ bs. length bs ≤ c.loop-byte.byte-index) c.bytes-byte-items.ensures.value c.loop-byte-test.false in
    subst (λ l. InOrder l bs) (sym (found_all bs c.loop-byte.names c.loop-byte.byte-index c.loop-byte.invariant all)) (firsts_in_order bs)
