use Rattle.std.proofs.Common.{eqb, rules}
use borrow.Author.Tests.{tests}
use Rattle.std.proofs.lemmas.Iterator.{YieldsList-from_slice}
use Rattle.std.proofs.lemmas.Iterator.Search.{any_from_yields_List}
use Rattle.exchange.specs.Sessions.{binding_of}
use Rattle.exchange.proofs.Loops.{any_in}
use Rattle.exchange.proofs.session.Session.starts.Goals as goal

pub returns : goal.returns
returns c =
    let bindings = c.bindings.result.now in
    let found = any_from_yields_List (λ b. eqb c.args.variable b.variable) _ _ c.any.result c.any.ensures.ran (YieldsList-from_slice bindings cc) (λ x b q k. search (rules, tests)) in
    record { value = any_in binding_of (λ b. b.variable) c.args.variable bindings _ _ c.bindings.ensures.value found }
