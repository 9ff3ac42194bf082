use Rattle.std.proofs.Common.{◌++◌, codes}
use Rattle.message.specs.Bytes.{symbol}
use Rattle.exchange.specs.Labels.{label_text}
use Rattle.listing.specs.Lines.{kind_text}
use Rattle.listing.specs.Words.{newline, hex}
use Rattle.listing.proofs.Adding.{then_adds}
use Rattle.listing.proofs.atoms.DeclarationPart.put.Goals as goal

pub returns : goal.returns
returns c =
    let d = c.args.self.now in
    let r = c.push_str-5.result in
    let end = c.push_str-5.new.self in
    let label = rw c.bytes.ensures.value at c.in_ok-push_bytes.ensures.adds in
    let kind = rw c.atom_word.ensures.value at c.in_ok-push_str-3.ensures.adds in
    let line = hex d.atom ++ newline in
    let from_kind = kind_text (symbol d.atom) ++ (codes " " ++ line) in
    let last = then_adds r end (codes " ") (λ _. line) c.in_ok-push_str-4.ensures.adds (then_adds r end (hex d.atom) (λ _. newline) c.in_ok-push_hex.ensures.adds c.push_str-5.ensures.adds) in
    let word = then_adds r end (codes " ") (λ _. from_kind) c.in_ok-push_str-2.ensures.adds (then_adds r end (kind_text (symbol d.atom)) (λ _. codes " " ++ line) kind last) in
    record { adds = then_adds r end (codes "atom ") (λ _. label_text d.label ++ (codes " " ++ from_kind)) c.in_ok-push_str.ensures.adds (then_adds r end (label_text d.label) (λ _. codes " " ++ from_kind) label word) }
