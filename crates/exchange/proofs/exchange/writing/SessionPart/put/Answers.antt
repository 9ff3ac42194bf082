use Rattle.std.proofs.Common.{◌+◌, ◌*◌, [], ◌∷◌, length, sym, ap, ◌∙◌, arith}
use Rattle.std.specs.List.{flat_map}
use Rattle.std.proofs.lemmas.List.Folds.{flat_map-map}
use Rattle.std.proofs.lemmas.List.{length-map}
use Rattle.exchange.specs.Files.{binding_bytes}
use Rattle.exchange.specs.Sessions.{binding_of, starts_in}
use Rattle.exchange.proofs.Putting.{puts_both, puts_same, puts_field, pairs_length}
use Rattle.exchange.proofs.exchange.writing.SessionPart.put.Goals as goal

pub parts-requires : goal.parts-requires
parts-requires c =
    let same = sym (flat_map-map binding_bytes binding_of c.bindings-bindings.result.now) ∙ ap (flat_map binding_bytes) c.bindings-bindings.ensures.value in
    record { room = omega (arith, c.requires.room, ap length same, c.start.ensures.puts.size, c.start.ensures.puts.long, c.bytes.ensures.puts.size, c.bytes.ensures.puts.long) }

pub returns : goal.returns
returns c =
    let self = c.args.self.now in
    let bindings = c.bindings-bindings.result.now in
    let is = c.bindings-bindings.ensures.value in
    let starts = flat_map binding_bytes (starts_in self) in
    let number = sym (length-map bindings binding_of) ∙ ap length is in
    let role = puts_same (c.role.result ∷ []) (self.role ∷ []) (ap (λ r. r ∷ []) c.role.ensures.value) c.bytes.ensures.puts in
    let rest = puts_same _ starts (sym (flat_map-map binding_bytes binding_of bindings) ∙ ap (flat_map binding_bytes) is) c.parts.ensures.puts in
    let value = puts_both (self.role ∷ []) starts (omega (arith, c.requires.room, c.start.ensures.puts.size, c.start.ensures.puts.long)) role rest in
    record { puts = puts_field 0x05 (self.role ∷ starts) (1 + 2 * length bindings) (omega (arith, c.requires.room)) (omega (arith, number, pairs_length (starts_in self))) c.start.ensures.puts value }
