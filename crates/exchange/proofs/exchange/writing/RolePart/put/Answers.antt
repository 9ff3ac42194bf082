use Rattle.std.proofs.Common.{[], length, sym, ap, ◌∙◌, arith}
use Rattle.std.specs.List.{flat_map}
use Rattle.std.proofs.lemmas.List.Folds.{flat_map-map}
use Rattle.exchange.specs.Files.{field, step_field}
use Rattle.exchange.specs.Parts.{step_of}
use Rattle.exchange.proofs.Putting.{puts_both, puts_same}
use Rattle.exchange.proofs.exchange.writing.RolePart.put.Goals as goal

pub parts-requires : goal.parts-requires
parts-requires c =
    let same = sym (flat_map-map step_field step_of c.steps.result.now) ∙ ap (flat_map step_field) c.steps.ensures.value in
    record { room = omega (arith, c.requires.room, ap length same, c.start.ensures.puts.size, c.start.ensures.puts.long) }

pub returns : goal.returns
returns c =
    let same = sym (flat_map-map step_field step_of c.steps.result.now) ∙ ap (flat_map step_field) c.steps.ensures.value in
    record { puts = puts_both (field 0x03 []) _ (omega (arith, c.requires.room)) c.start.ensures.puts (puts_same _ _ same c.parts.ensures.puts) }
