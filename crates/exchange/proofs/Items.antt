-- What is read of a step's or a claim's value is written as that value, and its marks are in their range.
use Rattle.std.proofs.Common.{◌≡◌, ℕ, Bool, true, false, eqb, ltb, List, [], ◌∷◌, Ok, Result, sym, refl, ◌∙◌}
use Rattle.std.proofs.lemmas.Bool.{eqb-true}
use Rattle.message.specs.declared.stop.Stop.{Stop}
use Rattle.message.specs.declared.stop.Stop.TheVariants.{WrongLength, OutOfRange}
use Rattle.exchange.specs.Exchanges.{Step, sends, receives, begins, ends, Claim, secret, session_secret, matched, matched_once}
use Rattle.exchange.specs.Files.{step_value, claim_value}
use Rattle.exchange.specs.Rules.{mark_fits}
use Rattle.exchange.specs.Checks.{Item, does, claims, marked_form, step_item, secret_item, mark_item, claim_item}
use Rattle.exchange.proofs.Refusing.{ok_same, not_ok, unless_ok, either_way}

-- the item is a step of this value
pub record IsStep (value : List ℕ) (item : Item) : Type 0 where
  pub step : Step
  pub is : item ≡ does step
  pub written : value ≡ step_value step
  pub mark : mark_fits step ≡ true

-- a claim's mark is in its range
abbrev pub claim_mark : Claim → Bool
claim_mark (secret m) = true
claim_mark (session_secret s v) = true
claim_mark (matched mark) = ltb mark 16
claim_mark (matched_once mark) = ltb mark 16

-- the item is a claim of this value
pub record IsClaim (value : List ℕ) (item : Item) : Type 0 where
  pub claim : Claim
  pub is : item ≡ claims claim
  pub written : value ≡ claim_value claim
  pub mark : claim_mark claim ≡ true

-- a begin or an end, with its mark
marked_step : (kind : ℕ) (make : ℕ → List ℕ → Step) (rest : List ℕ) (item : Item) → ((mark : ℕ) (f : List ℕ) → (step_value (make mark f) ≡ kind ∷ mark ∷ f) × (mark_fits (make mark f) ≡ ltb mark 16)) → marked_form make rest ≡ Ok item → IsStep (kind ∷ rest) item
marked_step kind make [] item is e = absurd (not_ok OutOfRange item e)
marked_step kind make (mark ∷ f) item is e =
    let p = unless_ok (ltb mark 16) OutOfRange (Ok (does (make mark f))) item e in
    record { step = make mark f; is = sym (ok_same (does (make mark f)) item p.1); written = sym (is mark f).0; mark = (is mark f).1 ∙ p.0 }

-- a step of each kind
pub step_item_lem : (kind : ℕ) (rest : List ℕ) (item : Item) → step_item kind rest ≡ Ok item → IsStep (kind ∷ rest) item
step_item_lem kind rest item e =
    or_else 1 (Ok (does (sends rest))) _ (λ h. record { step = sends rest; is = sym (ok_same (does (sends rest)) item h); written = refl; mark = refl }) (
    or_else 2 (Ok (does (receives rest))) _ (λ h. record { step = receives rest; is = sym (ok_same (does (receives rest)) item h); written = refl; mark = refl }) (
    or_else 3 (marked_form begins rest) _ (marked_step 3 begins rest item (λ mark f. (refl, refl))) (
    or_else 4 (marked_form ends rest) _ (marked_step 4 ends rest item (λ mark f. (refl, refl))) (λ h. absurd (not_ok OutOfRange item h))))) e
  where
    or_else : (c : ℕ) (here next : Result Item Stop) → (here ≡ Ok item → IsStep (c ∷ rest) item) → (next ≡ Ok item → IsStep (kind ∷ rest) item) → elim (eqb kind c) as (λ _. Result Item Stop) [ true ↦ here | false ↦ next ] ≡ Ok item → IsStep (kind ∷ rest) item
    or_else c here next is after = either_way (IsStep (kind ∷ rest) item) (eqb kind c) here next (Ok item) (λ k h. rw (eqb-true kind c k) (is h)) after

-- a session and a variable
secret_claim : (rest : List ℕ) (item : Item) → secret_item rest ≡ Ok item → IsClaim (2 ∷ rest) item
secret_claim [] item e = absurd (not_ok WrongLength item e)
secret_claim (s ∷ []) item e = absurd (not_ok WrongLength item e)
secret_claim (s ∷ (v ∷ [])) item e = record { claim = session_secret s v; is = sym (ok_same (claims (session_secret s v)) item e); written = refl; mark = refl }
secret_claim (s ∷ (v ∷ (b ∷ rest))) item e = absurd (not_ok WrongLength item e)

-- a claim on a mark
marked_claim : (kind : ℕ) (make : ℕ → Claim) (rest : List ℕ) (item : Item) → ((mark : ℕ) → (claim_value (make mark) ≡ kind ∷ mark ∷ []) × (claim_mark (make mark) ≡ ltb mark 16)) → mark_item make rest ≡ Ok item → IsClaim (kind ∷ rest) item
marked_claim kind make [] item is e = absurd (not_ok WrongLength item e)
marked_claim kind make (mark ∷ []) item is e =
    let p = unless_ok (ltb mark 16) OutOfRange (Ok (claims (make mark))) item e in
    record { claim = make mark; is = sym (ok_same (claims (make mark)) item p.1); written = sym (is mark).0; mark = (is mark).1 ∙ p.0 }
marked_claim kind make (mark ∷ (b ∷ rest)) item is e = absurd (not_ok WrongLength item e)

-- a claim of each kind
pub claim_item_lem : (kind : ℕ) (rest : List ℕ) (item : Item) → claim_item kind rest ≡ Ok item → IsClaim (kind ∷ rest) item
claim_item_lem kind rest item e =
    or_else 1 (Ok (claims (secret rest))) _ (λ h. record { claim = secret rest; is = sym (ok_same (claims (secret rest)) item h); written = refl; mark = refl }) (
    or_else 2 (secret_item rest) _ (secret_claim rest item) (
    or_else 3 (mark_item matched rest) _ (marked_claim 3 matched rest item (λ mark. (refl, refl))) (
    or_else 4 (mark_item matched_once rest) _ (marked_claim 4 matched_once rest item (λ mark. (refl, refl))) (λ h. absurd (not_ok OutOfRange item h))))) e
  where
    or_else : (c : ℕ) (here next : Result Item Stop) → (here ≡ Ok item → IsClaim (c ∷ rest) item) → (next ≡ Ok item → IsClaim (kind ∷ rest) item) → elim (eqb kind c) as (λ _. Result Item Stop) [ true ↦ here | false ↦ next ] ≡ Ok item → IsClaim (kind ∷ rest) item
    or_else c here next is after = either_way (IsClaim (kind ∷ rest) item) (eqb kind c) here next (Ok item) (λ k h. rw (eqb-true kind c k) (is h)) after
