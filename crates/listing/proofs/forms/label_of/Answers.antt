use Rattle.std.proofs.Common.{◌≡◌, ℕ, eqb, List, [], ◌∷◌, map, Option, rules, tests, arith, refl, ap, ◌∙◌}
use Rattle.std.specs.List.{find}
use Rattle.std.specs.Option.{option_map, option_map_or}
use Rattle.std.proofs.lemmas.Iterator.{YieldsList-from_slice}
use Rattle.std.proofs.lemmas.Iterator.Search.{find_from_yields_List}
use Rattle.exchange.specs.declared.declaration.Declaration.{Declaration}
use Rattle.exchange.specs.Atoms.{declaration_of}
use Rattle.exchange.specs.Labels.{label_text}
use Rattle.listing.specs.Texts.{label_of}
use Rattle.listing.proofs.forms.label_of.Goals as goal

-- the label of what is found
abbrev label_in : Option Declaration → List ℕ
label_in o = option_map_or (λ d. label_text d.label) o []

label_found : (a : ℕ) (ds : List Declaration) → label_in (find (λ d. eqb a d.atom) ds) ≡ label_of (map declaration_of ds) a
label_found a [] = refl
label_found a (d ∷ ds) = grind (arith, label_found a ds)

pub returns : goal.returns
returns c =
    let ds = c.args.atoms.now in
    let found = find_from_yields_List (λ (d : Declaration). eqb c.args.atom d.atom) _ _ c.find.result c.find.ensures.ran (YieldsList-from_slice ds cc) (λ x b q k. search (rules, tests)) in
    let shown : c.map_or.result.now ≡ label_in (option_map (λ d. d.now) c.find.result) = search rules in
    record { value = shown ∙ (ap label_in found ∙ label_found c.args.atom ds) }
