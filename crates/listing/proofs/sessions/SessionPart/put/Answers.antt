use Rattle.std.proofs.Common.{ℕ, List, ◌++◌, codes, decimal, append_assoc}
use Rattle.exchange.specs.Exchanges.{Declaration}
use Rattle.exchange.specs.Sessions.{binding_of, starts_in}
use Rattle.listing.specs.Adds.{declared_in}
use Rattle.listing.specs.Lines.{start_text}
use Rattle.listing.specs.Words.{newline, numbered}
use Rattle.listing.proofs.Adding.{then_adds}
use Rattle.listing.proofs.Rows.{row}
use Rattle.listing.proofs.sessions.SessionPart.put.Goals as goal

pub returns : goal.returns
returns c =
    let s = c.args.self.now in
    let end = c.push_str.new.self in
    let starts : List Declaration → List ℕ = λ ds. numbered (start_text ds) 0 (starts_in s) in
    let shown = row binding_of _ c.bindings.ensures.value (start_text (declared_in c.push_decimal.new.self)) in
    let last = then_adds c.push_str.result end (starts (declared_in c.push_decimal.new.self)) (λ _. newline) (rw shown at c.in_ok-put_all.ensures.adds) c.push_str.ensures.adds in
    let role = then_adds c.push_str.result end (decimal s.role) (λ ds. starts ds ++ newline) (rw c.role.ensures.value at c.in_ok-push_decimal.ensures.adds) last in
    record { adds = simp append_assoc at (then_adds c.push_str.result end (codes "session " ++ (decimal c.args.number ++ codes " plays role ")) (λ ds. decimal s.role ++ (starts ds ++ newline)) c.in_ok-push_between.ensures.adds role) }
