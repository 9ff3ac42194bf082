-- Finding the variables byte by byte. Assumes nothing.
use Rattle.std.proofs.Common.{◌≡◌, ℕ, ◌+◌, ◌-◌, ◌<◌, ◌≤◌, List, length, get_or, drop, replicate, sym, ap, ◌∙◌, arith}
use Rattle.std.proofs.lemmas.List.{drop-replicate, at_drop_more, at_drop_all}
use Rattle.message.specs.declared.row.Row.{Row}
use Rattle.message.specs.Rows.{items_in, rest_of}
use Rattle.message.specs.Variables.{noted, firsts_from, firsts}
use Rattle.message.proofs.Firsts.{noted_bounds}

-- the names are the variables found before the place i, with zeros after them
pub record FoundTo (bs : List ℕ) (names : Row ℕ 24) (i : ℕ) : Type 0 where
  pub behind : length (items_in names) ≤ i
  pub rest : rest_of names ≡ replicate (24 - length (items_in names)) 0
  pub left : firsts_from (items_in names) (drop i bs) ≡ firsts bs

module _ (bs : List ℕ) (names : Row ℕ 24) (i : ℕ) (so : FoundTo bs names i) where
  module _ (h : i < length bs) where
    -- one step of the definition
    step : firsts_from (noted (items_in names) (get_or bs i 0)) (drop (i + 1) bs) ≡ firsts bs
    step = sym (at_drop_more (firsts_from (items_in names)) bs i 0 h) ∙ so.left

    -- the byte is noted
    pub found_more : (more : Row ℕ 24) → items_in more ≡ noted (items_in names) (get_or bs i 0) → rest_of more ≡ drop (length (items_in more) - length (items_in names)) (rest_of names) → FoundTo bs more (i + 1)
    found_more more items rest =
        let n = length (items_in names) in
        let m = length (items_in more) in
        let bounds = noted_bounds (items_in names) (get_or bs i 0) in
        let less : (24 - n) - (m - n) ≡ 24 - m = omega (arith, ap length items, bounds) in
        record {
          behind = omega (arith, ap length items, bounds, so.behind);
          rest = rest ∙ ap (drop (m - n)) so.rest ∙ drop-replicate (m - n) (24 - n) 0 ∙ ap (λ n. replicate n 0) less;
          left = ap (λ l. firsts_from l (drop (i + 1) bs)) items ∙ step;
        }

  -- no byte is left
  pub found_all : length bs ≤ i → items_in names ≡ firsts bs
  found_all h = sym (at_drop_all (firsts_from (items_in names)) bs i h) ∙ so.left
