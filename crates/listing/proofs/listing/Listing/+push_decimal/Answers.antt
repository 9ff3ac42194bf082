use Rattle.std.proofs.Common.{◌≡◌, ℕ, ◌+◌, ◌/◌, ◌%◌, ◌^◌, ◌<◌, ◌≤◌, [], ◌∷◌, decimal, sym, subst, refl, ap, ◌∙◌, arith}
use Rattle.std.proofs.lemmas.Fmt.{decimal_digit, decimal_step}
use Rattle.listing.specs.declared.listing.Listing.{Listing}
use Rattle.listing.specs.Adds.{Added}
use Rattle.listing.proofs.Adding.{then}
use Rattle.listing.proofs.listing.Listing.+push_decimal.Goals as goal
use Rattle.listing.proofs.listing.Listing.+push_decimal.Goals.{then-number-ge10+in_ok-push_decimal, else-number-ge10}

-- the front of the number is added, and then its last digit
more : (n : ℕ) {a b b' c : Listing} → 10 ≤ n → n < 2 ^ 64 → b' ≡ b → Added a b (decimal (n / 10)) → Added b' c ((48 + n % 10) ∷ []) → Added a c (decimal n)
more n {a} {b} {b'} {c} h small same p q =
    let digit = subst (λ (b : Listing). Added b c ((48 + n % 10) ∷ [])) same q in
    subst (Added a c) (sym (decimal_step n h small)) (then (decimal (n / 10)) (λ _. (48 + n % 10) ∷ []) p digit)

-- the number is one digit
one : (n : ℕ) {a a' c : Listing} → n < 10 → a' ≡ a → Added a' c ((48 + n % 10) ∷ []) → Added a c (decimal n)
one n {a} {a'} {c} h same p =
    let digit : n % 10 ≡ n = omega arith in
    subst (Added a c) (ap (λ d. (48 + d) ∷ []) digit ∙ sym (decimal_digit n h)) (subst (λ (a : Listing). Added a c ((48 + n % 10) ∷ [])) same p)

pub returns : goal.returns
returns t c =
    let n = c.args.number in
    let small : n < 2 ^ 64 = omega arith in
    let last : Added c.if-number-ge10.self _ ((48 + n % 10) ∷ []) = record { same_text = refl; same_atoms = refl; items = c.in_ok-push.ensures.items } in
    record {
      adds = elim c.if-number-ge10.branch [
        | then-number-ge10+in_ok-push_decimal w ↦ more n w.if-number-ge10.true small w.self-is w.in_ok-push_decimal.ensures.adds last
        | else-number-ge10 w ↦ one n w.if-number-ge10.false w.self-is last
      ];
    }
