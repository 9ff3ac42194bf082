use Rattle.std.proofs.Common.{◌++◌, codes, decimal, append_assoc}
use Rattle.exchange.specs.Parts.{step_of}
use Rattle.exchange.specs.Roles.{role_of}
use Rattle.listing.specs.Adds.{declared_in}
use Rattle.listing.specs.Lines.{step_line}
use Rattle.listing.specs.Words.{newline, numbered}
use Rattle.listing.proofs.Adding.{then_adds}
use Rattle.listing.proofs.Rows.{row}
use Rattle.listing.proofs.steps.RolePart.put.Goals as goal

pub returns : goal.returns
returns c =
    let lines = row step_of _ c.steps.ensures.value (step_line (declared_in c.push_between.new.self)) in
    record { adds = simp append_assoc at (then_adds c.put_all.result c.put_all.new.self (codes "role " ++ (decimal c.args.number ++ newline)) (λ ds. numbered (step_line ds) 0 (role_of c.args.self.now)) c.in_ok-push_between.ensures.adds (rw lines at c.put_all.ensures.adds)) }
