use Rattle.std.proofs.Common.{subst}
use Rattle.message.specs.Forms.{text}
use Rattle.listing.proofs.Fronts.{PutFront, put_whole}
use Rattle.listing.proofs.listing.Listing.put_form.Goals as goal

pub returns : goal.returns
returns c =
    let a = c.args.self.now in
    let b = c.put_front.new.self in
    let left = c.in_ok-put_front.field-0.now in
    record { adds = put_whole (text c.args.form.now) left a b c.args.form.now.reads (subst (λ bs. PutFront a bs left b) c.bytes.ensures.value c.in_ok-put_front.ensures.adds) }
