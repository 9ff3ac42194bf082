-- What a file loads as, and what that says of it.
use Rattle.std.proofs.Common.{◌≡◌, ℕ, suc, ◌<◌, ◌≤◌, true, false, List, length, IfSome, Some, None, Option, sym, refl, ap, ◌∙◌, subst, arith}
use Rattle.std.proofs.lemmas.Bool.{le-leb, lt-leb}
use Rattle.std.specs.Borrow.{Bor}
use Rattle.std.specs.Option.{option_map, ForSome}
use Rattle.message.specs.declared.stop.Stop.{Stop}
use Rattle.message.specs.declared.stop.Stop.TheVariants.{FileTooLong}
use Rattle.exchange.specs.declared.exchange.Exchange as code
use Rattle.exchange.specs.declared.store.Store.{Store}
use Rattle.exchange.specs.Checks.{Outcome, accepted, refused, reading, blank, loads}
use Rattle.exchange.specs.Exchanges.{Exchange}
use Rattle.exchange.specs.Files.{file_bytes}
use Rattle.exchange.specs.Lossless.{Lossless}
use Rattle.exchange.specs.Rules.{Fit, is_fit}
use Rattle.exchange.specs.Stores.{held, lent}
use Rattle.exchange.specs.Views.{exchange_of}
use Rattle.exchange.proofs.Fitting.{fit_from_test}
use Rattle.exchange.proofs.Faithful as faith
use Rattle.exchange.proofs.Restoring as back

pub lossless : Lossless
lossless = (back.restores, faith.faithful)

-- a file of at most 8,192 bytes is read field by field
pub loads_short : (file : List ℕ) → length file ≤ 8192 → loads file ≡ reading (suc (length file)) file 0 None blank
loads_short file h = ap (λ b. elim b as (λ _. Outcome) [ true ↦ reading (suc (length file)) file 0 None blank | false ↦ refused FileTooLong 0 ]) (le-leb (length file) 8192 h)

-- what was read of it is the exchange whose file it is
pub read_whole : (file : List ℕ) (y : Exchange) → length file ≤ 8192 → accepted y ≡ reading (suc (length file)) file 0 None blank → Fit y × (file_bytes y ≡ file)
read_whole file y h e = lossless.1 file y (loads_short file h ∙ sym e)

-- a longer one is refused
pub loads_long : (file : List ℕ) → 8192 < length file → loads file ≡ refused FileTooLong 0
loads_long file h = ap (λ b. elim b as (λ _. Outcome) [ true ↦ reading (suc (length file)) file 0 None blank | false ↦ refused FileTooLong 0 ]) (lt-leb (length file) 8192 h)

-- a file that is refused is that of no exchange that keeps every rule
pub refused_unfit : (file : List ℕ) (stop : Stop) (place : ℕ) → loads file ≡ refused stop place → (x : Exchange) → Fit x → file_bytes x ≡ file → ⊥
refused_unfit file stop place e x fit is =
    let both : accepted x ≡ refused stop place = sym (back.restores x fit) ∙ (ap loads is ∙ e) in
    let z : ◌≡◌ {A = ℕ} 0 1 = cc in omega arith

-- what a store holds keeps every rule, so its file loads as it again
pub held_fit : (s : Store) → IfSome (held s) Fit
held_fit s = go s.size s.fit
  where
    go : (size : Option ℕ) → ForSome size (λ _. is_fit (exchange_of s.exchange) ≡ true) → IfSome (option_map (λ _. exchange_of s.exchange) size) Fit
    go None fit = tt
    go (Some n) fit = fit_from_test (exchange_of s.exchange) (fit n refl)

pub held_again : (s : Store) → IfSome (held s) (λ x. loads (file_bytes x) ≡ accepted x)
held_again s = go (held s) (held_fit s)
  where
    go : (o : Option Exchange) → IfSome o Fit → IfSome o (λ x. loads (file_bytes x) ≡ accepted x)
    go None fit = tt
    go (Some x) fit = back.restores x fit

-- a reference to what it holds too
pub lent_fit : (s : Store) (o : Option (Bor code.Exchange)) → option_map lent o ≡ held s → IfSome o (λ e. Fit (lent e))
lent_fit s o is = go o (subst (λ h. IfSome h Fit) (sym is) (held_fit s))
  where
    go : (o : Option (Bor code.Exchange)) → IfSome (option_map lent o) Fit → IfSome o (λ e. Fit (lent e))
    go None fit = tt
    go (Some e) fit = fit
