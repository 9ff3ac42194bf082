use Rattle.std.proofs.Common.{◌++◌, codes, decimal}
use Rattle.listing.specs.Texts.{byte_text}
use Rattle.listing.specs.Adds.{declared_in}
use Rattle.listing.proofs.Adding.{then_adds}
use Rattle.listing.proofs.listing.Listing.put_claim.Goals as goal

pub returns-in_ok-put_byte-in-SessionSecret : goal.returns-in_ok-put_byte-in-SessionSecret
returns-in_ok-put_byte-in-SessionSecret c =
    let words = codes " of session " ++ (decimal c.in-SessionSecret.session ++ codes " stays secret") in
    rw c.in-SessionSecret.is (record { adds = then_adds c.push_between.result c.push_between.new.self (byte_text (declared_in c.args.self.now) c.in-SessionSecret.variable) (λ _. words) c.in_ok-put_byte-in-SessionSecret.ensures.adds c.push_between.ensures.adds })
