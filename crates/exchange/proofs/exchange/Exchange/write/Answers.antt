use Rattle.std.proofs.Common.{◌++◌, length, drop, sym, refl, ap, ◌∙◌, zero-add, arith, rules}
use Rattle.message.specs.Messages.{message_text}
use Rattle.exchange.specs.Atoms.{declaration_of}
use Rattle.exchange.specs.Files.{declaration_field, opening_field, role_fields, session_field, claim_field, file_bytes}
use Rattle.exchange.specs.Parts.{claim_of}
use Rattle.exchange.specs.Roles.{role_of}
use Rattle.exchange.specs.Sessions.{session_of}
use Rattle.exchange.specs.Views.{exchange_of}
use Rattle.exchange.proofs.Putting.{puts_items, puts_file}
use Rattle.exchange.proofs.exchange.Exchange.write.Goals as goal

pub returns : goal.returns
returns c =
    let file =
    puts_file (exchange_of c.args.self.now) refl
    (puts_items declaration_field declaration_of c.deref.ensures.value c.parts.ensures.puts)
    (puts_items opening_field message_text c.deref-2.ensures.value c.parts-2.ensures.puts)
    (puts_items role_fields role_of c.deref-3.ensures.value c.parts-3.ensures.puts)
    (puts_items session_field session_of c.deref-4.ensures.value c.parts-4.ensures.puts)
    (puts_items claim_field claim_of c.deref-5.ensures.value c.parts-5.ensures.puts)
    c.start.ensures.puts
    in
    let bytes = file_bytes (exchange_of c.args.self.now) in
    let whole = file.bytes ∙ ap (λ n. bytes ++ drop n c.args.out.now) (zero-add (length bytes)) in
    let buffer = sym file.buffer in
    record { size = omega (arith, file.size); bytes = search (rules, whole) }
