use Rattle.std.proofs.Common.{rules, tests, not, sym, ap, ◌∙◌}
use Rattle.std.proofs.lemmas.Iterator.{YieldsList-from_slice}
use Rattle.std.proofs.lemmas.Iterator.Search.{any_from_yields_List}
use Rattle.message.specs.Bytes.{is_variable}
use Rattle.message.proofs.NoVariable.{closed_is}
use Rattle.message.proofs.reader.is_closed.Goals as goal

pub returns : goal.returns
returns c =
    let bs = c.args.bytes.now in
    let told = any_from_yields_List is_variable _ _ c.any.result c.any.ensures.ran (YieldsList-from_slice bs cc) (λ x b q k. search (rules, tests)) in
    record { value = ap not told ∙ sym (closed_is bs) }
