-- Rows of what the code's slices hold.
use Rattle.std.proofs.Common.{◌≡◌, ℕ, ◌+◌, List, [], ◌∷◌, ◌++◌, map, refl, ap, ◌∙◌}
use Rattle.std.specs.List.{flat_map}
use Rattle.listing.specs.Words.{numbered}

-- a row of what the parts stand for
numbered_map : {A B : Type 0} (part : ℕ → B → List ℕ) (f : A → B) (n : ℕ) (xs : List A) → numbered (λ n x. part n (f x)) n xs ≡ numbered part n (map f xs)
numbered_map part f n [] = refl
numbered_map part f n (x ∷ xs) = ap (λ l. part n (f x) ++ l) (numbered_map part f (n + 1) xs)

-- a row whose parts do not show their numbers
numbered_joined : {A B : Type 0} (part : B → List ℕ) (f : A → B) (n : ℕ) (xs : List A) → numbered (λ _ x. part (f x)) n xs ≡ flat_map part (map f xs)
numbered_joined part f n [] = refl
numbered_joined part f n (x ∷ xs) = ap (λ l. part (f x) ++ l) (numbered_joined part f (n + 1) xs)

module _ {A B : Type 0} (f : A → B) (parts : List A) {kept : List B} (all : map f parts ≡ kept) where
  -- the row of a slice is that of what it stands for
  pub row : (part : ℕ → B → List ℕ) → numbered (λ n x. part n (f x)) 0 parts ≡ numbered part 0 kept
  row part = numbered_map part f 0 parts ∙ ap (numbered part 0) all

  pub plain_row : (part : B → List ℕ) → numbered (λ _ x. part (f x)) 0 parts ≡ flat_map part kept
  plain_row part = numbered_joined part f 0 parts ∙ ap (flat_map part) all
