-- The text of an exchange.
use Rattle.std.specs.Prelude.{ℕ, List, ◌++◌}
use Rattle.std.specs.List.{flat_map}
use Rattle.exchange.specs.Exchanges.{Exchange}
use Rattle.listing.specs.Lines.{declaration_line, opening_line, role_lines, session_line, claim_line}
use Rattle.listing.specs.Words.{numbered}

-- its atoms, opening messages, roles, sessions and claims, each in its order
abbrev pub listing_text : Exchange → List ℕ
listing_text x =
    flat_map declaration_line x.atoms ++ (
    flat_map (opening_line x.atoms) x.opening ++ (
    numbered (role_lines x.atoms) 0 x.roles ++ (
    numbered (session_line x.atoms) 0 x.sessions ++
    numbered (claim_line x.atoms) 0 x.claims)))
