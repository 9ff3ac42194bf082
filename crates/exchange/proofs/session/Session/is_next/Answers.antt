use Rattle.std.proofs.Common.{◌≡◌, ℕ, ◌-◌, Bool, true, ltb, List, map, length, None, Some, Option, sym, ap, ◌∙◌, rules}
use Rattle.std.specs.Borrow.{Bor}
use Rattle.std.specs.List.{slice_get}
use Rattle.std.specs.Option.{option_copied, option_map, option_map_or, MatchOption}
use Rattle.exchange.specs.declared.session.Binding as code
use Rattle.exchange.specs.Checks.{is_next}
use Rattle.exchange.specs.Exchanges.{Binding}
use Rattle.exchange.specs.Sessions.{binding_of}
use Rattle.exchange.proofs.Pairing.{next_is}
use Rattle.exchange.proofs.Places.{last_seen}
use Rattle.exchange.proofs.session.Session.is_next.Goals as goal

-- the test of the last pair, if there is one
asks : (o : Option (Bor code.Binding)) (v : ℕ) (r : Bool) → MatchOption o (r ≡ true) (λ b. r ≡ ltb b.now.variable v) → r ≡ option_map_or (λ b. ltb b.variable v) (option_map binding_of (option_copied o)) true
asks None v r e = e
asks (Some b) v r e = e

of_last : (o : Option (Bor code.Binding)) (items : List code.Binding) (starts : List Binding) (v : ℕ) (r : Bool) → option_copied o ≡ slice_get items (length items - 1) → map binding_of items ≡ starts → MatchOption o (r ≡ true) (λ b. r ≡ ltb b.now.variable v) → r ≡ is_next starts v
of_last o items starts v r last is e =
    asks o v r e
    ∙ (ap (λ q. option_map_or (λ b. ltb b.variable v) q true) (ap (option_map binding_of) last ∙ sym (last_seen binding_of items))
    ∙ (sym (next_is (map binding_of items) v) ∙ ap (λ l. is_next l v) is))

pub returns : goal.returns
returns c = record { value = of_last c.last.result c.bindings.result.now _ c.args.variable _ c.last.ensures.value c.bindings.ensures.value (search rules) }
