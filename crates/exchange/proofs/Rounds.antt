-- One turn of reading a file, where enough turns are left.
use Rattle.std.proofs.Common.{◌≡◌, ℕ, zero, suc, ◌+◌, ◌<◌, ◌≤◌, true, false, ◌&&◌, leb, List, length, drop, Some, Ok, Err, Option, Result, sym, ap, ◌∙◌, arith}
use Rattle.std.specs.Result.{MatchResult, IsErrAnd}
use Rattle.std.proofs.lemmas.Result.{err_from_is_err_and}
use Rattle.message.specs.declared.stop.Stop.{Stop}
use Rattle.exchange.specs.declared.refusal.Refusal.{Refusal}
use Rattle.exchange.specs.declared.tag.Tag.{Tag}
use Rattle.exchange.specs.Checks.{Turn, turn, Outcome, accepted, refused, is_end, onward, reading}
use Rattle.exchange.specs.Exchanges.{Exchange}

-- the file is not at its end yet
abbrev goes_on : (n : ℕ) (file : List ℕ) (at : ℕ) (last : Option Tag) (x : Exchange) → Outcome
goes_on n file at last x = onward (turn last x (drop at file)) at (λ t. reading n file (at + t.size) (Some t.tag) t.exchange)

unfinished : (n : ℕ) (file : List ℕ) (at : ℕ) (last : Option Tag) (x : Exchange) → (is_end last && leb (length file) at) ≡ false → reading (suc n) file at last x ≡ goes_on n file at last x
unfolding reading
unfinished n file at last x e = ap (λ b. elim b as (λ _. Outcome) [ true ↦ accepted x | false ↦ goes_on n file at last x ]) e

-- a field was taken
pub round_on : (n : ℕ) (file : List ℕ) (at : ℕ) (last : Option Tag) (x : Exchange) (t : Turn) → at ≤ length file → length file < n + at → (is_end last && leb (length file) at) ≡ false → turn last x (drop at file) ≡ Ok t → 3 ≤ t.size
    → (m : ℕ) × (length file < m + (at + t.size)) × (reading m file (at + t.size) (Some t.tag) t.exchange ≡ reading n file at last x)
round_on zero file at last x t h k more e some = absurd (omega arith)
round_on (suc n) file at last x t h k more e some =
    (n, omega arith, sym (unfinished n file at last x more ∙ ap (λ r. onward r at (λ t. reading n file (at + t.size) (Some t.tag) t.exchange)) e))

-- it was refused
pub round_refused : (n : ℕ) (file : List ℕ) (at : ℕ) (last : Option Tag) (x : Exchange) (stop : Stop) → at ≤ length file → length file < n + at → (is_end last && leb (length file) at) ≡ false → turn last x (drop at file) ≡ Err stop → refused stop at ≡ reading n file at last x
round_refused zero file at last x stop h k more e = absurd (omega arith)
round_refused (suc n) file at last x stop h k more e =
    sym (unfinished n file at last x more ∙ ap (λ r. onward r at (λ t. reading n file (at + t.size) (Some t.tag) t.exchange)) e)

-- nothing follows the end field
pub round_ends : (n : ℕ) (file : List ℕ) (at : ℕ) (last : Option Tag) (x : Exchange) → at ≤ length file → length file < n + at → (is_end last && leb (length file) at) ≡ true → accepted x ≡ reading n file at last x
unfolding reading
round_ends zero file at last x h k e = absurd (omega arith)
round_ends (suc n) file at last x h k e = sym (ap (λ b. elim b as (λ _. Outcome) [ true ↦ accepted x | false ↦ goes_on n file at last x ]) e)

-- a refusal gets its place, and what came stays
pub placed_ok : {A : Type 0} (P : Stop → Refusal → Type 0) (r : Result A Stop) (q : Result A Refusal) (x : A) → MatchResult r (λ y. q ≡ Ok y) (λ stop. IsErrAnd q (P stop)) → q ≡ Ok x → r ≡ Ok x
placed_ok P (Ok y) q x h e = cc
placed_ok P (Err stop) q x h e = let refused = err_from_is_err_and q h in let z : ◌≡◌ {A = ℕ} 0 1 = cc (refused.1) in absurd (omega arith)

pub placed_err : {A : Type 0} (P : Stop → Refusal → Type 0) (r : Result A Stop) (q : Result A Refusal) (place : ℕ) (e : Refusal) → ((stop : Stop) (f : Refusal) → P stop f → f ≡ record { stop = stop; place = place }) → MatchResult r (λ y. q ≡ Ok y) (λ stop. IsErrAnd q (P stop)) → q ≡ Err e → (r ≡ Err e.stop) × (e.place ≡ place)
placed_err P (Ok y) q place e gives h is = let z : ◌≡◌ {A = ℕ} 0 1 = cc in absurd (omega arith)
placed_err P (Err stop) q place e gives h is =
    let refused = err_from_is_err_and q h in
    let same : e ≡ record { stop = stop; place = place } = cc (refused.1, gives stop refused.0 refused.2) in
    (ap (λ f. Err f.stop) (sym same), ap (λ f. f.place) same)
