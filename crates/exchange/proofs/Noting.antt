-- Noting the variables of a role, of which there may be 8.
use Rattle.std.proofs.Common.{◌≡◌, ℕ, ◌+◌, ◌<◌, List, [], ◌∷◌, ◌++◌, length, get_or, drop, sym, ap, ◌∙◌, arith}
use Rattle.std.proofs.lemmas.List.{at_drop_more}
use Rattle.message.specs.Variables.{noted, firsts_from, firsts}
use Rattle.std.specs.List.{flat_map}
use Rattle.exchange.specs.Exchanges.{Step}
use Rattle.exchange.specs.Rules.{form_in, role_variables}
use Rattle.exchange.proofs.Each.{firsts_after, firsts_more, joined_push}

-- a ninth one stays the ninth
pub noted_too_many : (found bs : List ℕ) (i : ℕ) → i < length bs → 8 < length (noted found (get_or bs i 0)) → 8 < length (firsts_from found (drop i bs))
noted_too_many found bs i h many =
    omega (arith, firsts_more (noted found (get_or bs i 0)) (drop (i + 1) bs), ap length (at_drop_more (firsts_from found) bs i 0 h))

-- the variables of a role with one more step
pub variables_more : (steps : List Step) (s : Step) → role_variables (steps ++ s ∷ []) ≡ firsts_from (role_variables steps) (form_in s)
variables_more steps s = ap firsts (joined_push form_in steps s) ∙ firsts_after [] (flat_map form_in steps) (form_in s)

pub role_noted : (names bs : List ℕ) (steps : List Step) (s : Step) → names ≡ role_variables steps → bs ≡ form_in s → firsts_from names bs ≡ role_variables (steps ++ s ∷ [])
role_noted names bs steps s is form = ap (firsts_from names) form ∙ (ap (λ l. firsts_from l (form_in s)) is ∙ sym (variables_more steps s))
