use Rattle.std.proofs.Common.{length, ap, arith}
use Rattle.exchange.specs.Names.{names_in}
use Rattle.exchange.proofs.Noting.{noted_too_many}
use Rattle.exchange.proofs.Refusing.{handed_on}
use Rattle.exchange.proofs.names.Names.note_all.Goals as goal

pub returns-in_err-note : goal.returns-in_err-note
returns-in_err-note c =
    let told = c.in_err-note.ensures.noted in
    let many = noted_too_many (names_in c.loop-byte.self) c.args.bytes.now c.loop-byte.byte-index c.loop-byte-test.true told.0 in
    record { noted = handed_on c.from_residual.result _ _ _ c.from_residual.ensures.1 (omega (arith, many, ap length c.loop-byte.invariant), told.1) }
