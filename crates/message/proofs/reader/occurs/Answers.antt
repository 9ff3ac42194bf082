use Rattle.std.proofs.Common.{rules, tests, nat_eq, ◌∙◌}
use Rattle.std.proofs.lemmas.Iterator.{YieldsList-from_slice}
use Rattle.std.proofs.lemmas.Iterator.Search.{any_from_yields_List}
use Rattle.message.proofs.Among.{found_is}
use Rattle.message.proofs.reader.occurs.Goals as goal

pub returns : goal.returns
returns c =
    let b = c.args.byte in
    let bs = c.args.bytes.now in
    let told = any_from_yields_List (nat_eq b) _ _ c.any.result c.any.ensures.ran (YieldsList-from_slice bs cc) (λ x d q k. search (rules, tests)) in
    record { value = told ∙ found_is b bs }
