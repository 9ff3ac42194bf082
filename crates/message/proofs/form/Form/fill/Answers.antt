use Rattle.std.proofs.Common.{◌≡◌, Some, None, sym, ap, ◌∙◌, subst, arith, MatchOption}
use Rattle.std.specs.Option.{option_map}
use Rattle.message.specs.Filling.{fill_tree}
use Rattle.message.specs.Messages.{message_text}
use Rattle.message.specs.Trees.{Tree, message_of}
use Rattle.message.specs.Values.{value_in}
use Rattle.message.proofs.FillLoop.{fill_more, fill_stops, fill_none, fill_all, fill_padded, fill_closed, fill_read}
use Rattle.message.proofs.form.Form.fill.Goals as goal

pub returns-in_err-memory : goal.returns-in_err-memory
returns-in_err-memory c =
    let form = c.args.self.now in
    let values = c.args.values.now in
    let none = fill_stops form values c.loop-i.memory c.loop-i.i c.loop-i.invariant c.loop-i-test.true c.in_err-memory.ensures.value in
    let is = c.from_residual.ensures in
    record {
      value = ap (option_map message_text) is ∙ sym none;
      tree = λ t e. subst (λ r. MatchOption r (fill_tree (value_in values) t ≡ None) (λ m. (u : Tree) × (fill_tree (value_in values) t ≡ Some u) × (message_of (message_text m) ≡ Some u))) (sym is) (fill_none form values none t e);
    }

pub loop-i-preserved : goal.loop-i-preserved
loop-i-preserved c = fill_more c.args.self.now c.args.values.now c.loop-i.memory c.loop-i.i c.loop-i.invariant c.loop-i-test.true c.in_ok-memory.field-0 c.in_ok-memory.ensures.value

pub invariant_of-form : goal.invariant_of-form
invariant_of-form c =
    let form = c.args.self.now in
    let values = c.args.values.now in
    let at : c.loop-i.i ≡ form.bytes.count = omega arith in
    record {
      padded = fill_padded form values c.loop-i.memory c.loop-i.i c.loop-i.invariant at;
      reads = (fill_closed form values c.loop-i.memory c.loop-i.i c.loop-i.invariant at).0;
    }

pub invariant_of-result : goal.invariant_of-result
invariant_of-result c =
    record { fixed = (fill_closed c.args.self.now c.args.values.now c.loop-i.memory c.loop-i.i c.loop-i.invariant (omega arith)).1 }

pub returns : goal.returns
returns c =
    let form = c.args.self.now in
    let values = c.args.values.now in
    let at : c.loop-i.i ≡ form.bytes.count = omega arith in
    record {
      value = sym (fill_all form values c.loop-i.memory c.loop-i.i c.loop-i.invariant at);
      tree = fill_read form values c.loop-i.memory c.loop-i.i c.loop-i.invariant at;
    }
