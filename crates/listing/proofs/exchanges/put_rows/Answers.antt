use Rattle.std.proofs.Common.{ℕ, List, ◌++◌, map, ap, rules}
use Rattle.std.specs.List.{flat_map}
use Rattle.message.specs.Messages.{message_text}
use Rattle.exchange.specs.Atoms.{declaration_of}
use Rattle.exchange.specs.Exchanges.{Declaration}
use Rattle.exchange.specs.Parts.{claim_of}
use Rattle.exchange.specs.Roles.{role_of}
use Rattle.exchange.specs.Sessions.{session_of}
use Rattle.exchange.specs.Views.{exchange_of}
use Rattle.listing.specs.Adds.{declared_in}
use Rattle.listing.specs.Lines.{declaration_line, opening_line, role_lines, session_line, claim_line}
use Rattle.listing.specs.Words.{numbered}
use Rattle.listing.proofs.Adding.{then_adds}
use Rattle.listing.proofs.Rows.{row, plain_row}
use Rattle.listing.proofs.exchanges.put_rows.Goals as goal

pub returns : goal.returns
returns c =
    let x = exchange_of c.args.exchange.now in
    let r = c.put_all-5.result in
    let end = c.put_all-5.new.self in
    let claims : List Declaration → List ℕ = λ ds. numbered (claim_line ds) 0 x.claims in
    let sessions : List Declaration → List ℕ = λ ds. numbered (session_line ds) 0 x.sessions ++ claims ds in
    let roles : List Declaration → List ℕ = λ ds. numbered (role_lines ds) 0 x.roles ++ sessions ds in
    let openings : List Declaration → List ℕ = λ ds. flat_map (opening_line ds) x.opening ++ roles ds in
    let atom_row = plain_row declaration_of _ (ap (map declaration_of) c.deref-2.ensures.value) declaration_line in
    let opening_row = plain_row message_text _ (ap (map message_text) c.deref-3.ensures.value) (opening_line (declared_in c.put_all.new.self)) in
    let role_row = row role_of _ (ap (map role_of) c.deref-4.ensures.value) (role_lines (declared_in c.put_all-2.new.self)) in
    let session_row = row session_of _ (ap (map session_of) c.deref-5.ensures.value) (session_line (declared_in c.put_all-3.new.self)) in
    let claim_row = row claim_of _ (ap (map claim_of) c.deref-6.ensures.value) (claim_line (declared_in c.put_all-4.new.self)) in
    let last = rw claim_row at c.put_all-5.ensures.adds in
    let fourth = then_adds r end _ claims (rw session_row at c.in_ok-put_all-4.ensures.adds) last in
    let third = then_adds r end _ sessions (rw role_row at c.in_ok-put_all-3.ensures.adds) fourth in
    let second = then_adds r end _ roles (rw opening_row at c.in_ok-put_all-2.ensures.adds) third in
    let all = then_adds r end _ openings (rw atom_row at c.in_ok-put_all.ensures.adds) second in
    let same = rw c.deref.ensures.value at all in
    search rules
