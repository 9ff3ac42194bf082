-- What the searches of lists find, in the words of the rules.
use Rattle.std.proofs.Common.{◌≡◌, ℕ, zero, suc, ◌+◌, ◌-◌, Bool, true, false, ◌&&◌, ◌||◌, eqb, List, [], ◌∷◌, ◌++◌, map, length, get_or, take, sym, refl, ap, ◌∙◌, arith}
use Rattle.std.specs.List.{flat_map, list_all, list_any, enumerate_from}
use Rattle.std.proofs.lemmas.List.{take-map}
use Rattle.message.specs.declared.form.Form.{Form}
use Rattle.message.specs.Variables.{among}
use Rattle.exchange.specs.declared.step.Step as code
use Rattle.exchange.specs.Exchanges.{Step, sends, Binding}
use Rattle.exchange.specs.Parts.{step_of}
use Rattle.exchange.specs.Rules.{each_below, step_at, throughout}

-- one of some values has this number
any_seen : {A B : Type 0} (f : A → B) (key : B → ℕ) (v : ℕ) (xs : List A) → list_any (λ x. eqb v (key (f x))) xs ≡ among v (map key (map f xs))
any_seen f key v [] = refl
any_seen f key v (x ∷ xs) = ap (λ t. eqb v (key (f x)) || t) (any_seen f key v xs)

pub any_in : {A B : Type 0} (f : A → B) (key : B → ℕ) (v : ℕ) (xs : List A) (ys : List B) (r : Bool) → map f xs ≡ ys → r ≡ list_any (λ x. eqb v (key (f x))) xs → r ≡ among v (map key ys)
any_in f key v xs ys r is e = e ∙ (any_seen f key v xs ∙ ap (λ l. among v (map key l)) is)

-- a number in one of two lists
among_append : (v : ℕ) (xs ys : List ℕ) → among v (xs ++ ys) ≡ (among v xs || among v ys)
among_append v [] ys = refl
among_append v (x ∷ xs) ys = ap (λ t. eqb v x || t) (among_append v xs ys) ∙ group (eqb v x) (among v xs) (among v ys)
  where
    group : (r s t : Bool) → (r || (s || t)) ≡ ((r || s) || t)
    group true s t = refl
    group false s t = refl

-- a number in what one of some values gives
pub any_joined : {A B : Type 0} (f : A → B) (bytes : B → List ℕ) (v : ℕ) (xs : List A) → list_any (λ x. among v (bytes (f x))) xs ≡ among v (flat_map bytes (map f xs))
any_joined f bytes v [] = refl
any_joined f bytes v (x ∷ xs) = ap (λ t. among v (bytes (f x)) || t) (any_joined f bytes v xs) ∙ sym (among_append v (bytes (f x)) (flat_map bytes (map f xs)))

-- a test of the numbers below n, where another one answers the same
below_same : (n : ℕ) (s t : ℕ → Bool) → ((i : ℕ) → s i ≡ t i) → each_below n s ≡ each_below n t
below_same zero s t e = refl
below_same (suc n) s t e = ap (λ b. b && s n) (below_same n s t e) ∙ ap (λ b. each_below n t && b) (e n)

-- the first number, and those after it
below_first : (n : ℕ) (t : ℕ → Bool) → each_below (suc n) t ≡ (t 0 && each_below n (λ i. t (suc i)))
below_first zero t = one (t 0)
  where
    one : (b : Bool) → b ≡ (b && true)
    one true = refl
    one false = refl
below_first (suc n) t = ap (λ b. b && t (suc n)) (below_first n t) ∙ group (t 0) (each_below n (λ i. t (suc i))) (t (suc n))
  where
    group : (r s q : Bool) → ((r && s) && q) ≡ (r && (s && q))
    group true s q = refl
    group false s q = refl

-- a test of each element with its place, from a place on
pub each_place : {A B : Type 0} (f : A → B) (test : ℕ → B → Bool) (d : B) (k : ℕ) (xs : List A) → list_all (λ p. test p.0 (f p.1)) (enumerate_from k xs) ≡ each_below (length (map f xs)) (λ i. test (k + i) (get_or (map f xs) i d))
each_place f test d k [] = refl
each_place f test d k (x ∷ xs) =
    let later : (i : ℕ) → test (k + 1 + i) (get_or (map f xs) i d) ≡ test (k + suc i) (get_or (map f xs) i d) = λ i. ap (λ n. test n (get_or (map f xs) i d)) (omega arith) in
    let here : test k (f x) ≡ test (k + 0) (f x) = ap (λ n. test n (f x)) (omega arith) in
    ap (λ b. b && list_all (λ p. test p.0 (f p.1)) (enumerate_from (k + 1) xs)) here
    ∙ (ap (λ b. test (k + 0) (f x) && b) (each_place f test d (k + 1) xs ∙ below_same (length (map f xs)) _ _ later)
    ∙ sym (below_first (length (map f xs)) (λ i. test (k + i) (get_or (f x ∷ map f xs) i d))))

-- a rule of steps at each line of a role, the steps before it cut off as the code cuts them
pub throughout_lines : (rule : List Binding → List Step → Step → Bool) (starts : List Binding) (steps : List (code.Step Form)) (role : List Step) → map step_of steps ≡ role
    → list_all (λ (p : ℕ × code.Step Form). rule starts (map step_of (take (p.0 - 0) steps)) (step_of p.1)) (enumerate_from 0 steps) ≡ throughout rule role starts
throughout_lines rule starts steps role is =
    let seen = map step_of steps in
    let before : (i : ℕ) → rule starts (map step_of (take (0 + i - 0) steps)) (step_at seen i) ≡ rule starts (take i seen) (step_at seen i) =
    λ i. ap (λ l. rule starts l (step_at seen i)) (ap (λ n. map step_of (take n steps)) (omega arith) ∙ sym (take-map step_of i steps)) in
    each_place step_of (λ n s. rule starts (map step_of (take (n - 0) steps)) s) (sends []) 0 steps
    ∙ (below_same (length seen) _ _ before ∙ ap (λ r. throughout rule r starts) is)
