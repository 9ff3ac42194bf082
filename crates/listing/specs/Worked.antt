-- An exchange with each sort of part, and its listing written out.
use Rattle.std.specs.Prelude.{◌≡◌, ℕ, List, [], ◌∷◌, ◌++◌, codes}
use Rattle.exchange.specs.Exchanges.{sends, receives, begins, ends, secret, session_secret, matched, matched_once, Exchange}
use Rattle.listing.specs.Listing.{listing_text}
use Rattle.listing.specs.Words.{newline}

abbrev lines : List (List ℕ) → List ℕ
lines [] = []
lines (l ∷ ls) = l ++ (newline ++ lines ls)

abbrev shown : Exchange
shown = record {
  atoms = record { atom = 0x40; label = codes "blk" } ∷ record { atom = 0x50; label = codes "ks" } ∷ record { atom = 0x0C; label = codes "car" } ∷ [];
  opening = (0xF1 ∷ 0x50 ∷ 0x40 ∷ []) ∷ [];
  roles = (begins 1 (0x40 ∷ []) ∷ sends (0xF1 ∷ 0x50 ∷ 0x40 ∷ []) ∷ []) ∷ (receives (0xF0 ∷ 0xF1 ∷ 0x50 ∷ 0xA0 ∷ 0x81 ∷ []) ∷ ends 12 (0xA0 ∷ []) ∷ []) ∷ [];
  sessions = record { role = 0; starts = [] } ∷ record { role = 1; starts = record { variable = 0x81; atom = 0x0C } ∷ record { variable = 0xA0; atom = 0x40 } ∷ [] } ∷ [];
  claims = secret (0xF1 ∷ 0x50 ∷ 0x40 ∷ []) ∷ session_secret 1 0xA0 ∷ matched 1 ∷ matched_once 12 ∷ [];
}

abbrev pub Worked : Type 0
Worked = listing_text shown ≡ lines (
    codes "atom blk data 40" ∷
    codes "atom ks shared key 50" ∷
    codes "atom car name 0C" ∷
    codes "opening {blk}ks" ∷
    codes "role 0" ∷
    codes "0 begin 1 blk" ∷
    codes "1 send {blk}ks" ∷
    codes "role 1" ∷
    codes "0 receive ({?data0}ks,?name1)" ∷
    codes "1 end 12 ?data0" ∷
    codes "session 0 plays role 0" ∷
    codes "session 1 plays role 1 with ?name1 = car, ?data0 = blk" ∷
    codes "claim 0: {blk}ks stays secret" ∷
    codes "claim 1: ?data0 of session 1 stays secret" ∷
    codes "claim 2: each end with mark 1 has a begin" ∷
    codes "claim 3: no more ends with mark 12 than begins" ∷ [])
