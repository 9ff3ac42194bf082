use Rattle.std.proofs.Common.{eqb, refl, rules}
use borrow.Author.Tests.{tests}
use Rattle.std.proofs.lemmas.Iterator.{YieldsList-from_slice}
use Rattle.std.proofs.lemmas.Iterator.Search.{any_from_yields_List}
use Rattle.exchange.specs.Atoms.{declaration_of}
use Rattle.exchange.proofs.Loops.{any_in}
use Rattle.exchange.proofs.exchange.Exchange.declares.Goals as goal

pub returns : goal.returns
returns c =
    let atoms = c.args.self.now.atoms.items in
    let found = any_from_yields_List (λ d. eqb c.args.atom d.atom) _ _ c.any.result c.any.ensures.ran (YieldsList-from_slice atoms cc) (λ x b q k. search (rules, tests)) in
    record { value = any_in declaration_of (λ d. d.atom) c.args.atom atoms _ _ refl found }
