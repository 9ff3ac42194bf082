use Rattle.std.proofs.Common.{◌++◌, length, take, drop, replicate, ap, ◌∙◌, arith}
use Rattle.std.proofs.lemmas.List.{drop-replicate}
use Rattle.std.proofs.Math.Seq.{take-append_seam, drop-append_seam}
use Rattle.message.proofs.row.Row.from_slice.Goals as goal

pub returns : goal.returns
returns g c =
    let items = c.args.items.now in
    let rest = drop (length items) (replicate g.row.N c.args.filler) in
    let copied = ap (λ front. front ++ rest) c.copy_from_slice.ensures.after in
    record {
      cases = (
        omega (arith, c.if-items.false),
        ap (take (length items)) copied ∙ take-append_seam items rest,
        ap (drop (length items)) copied ∙ drop-append_seam items rest ∙ drop-replicate (length items) g.row.N c.args.filler,
      );
    }
