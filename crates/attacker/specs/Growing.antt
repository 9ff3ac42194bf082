-- The more is known, the more parts come out; there are never more parts than bytes.
use Rattle.std.specs.Prelude.{◌≡◌, ℕ, ◌≤◌, Bool, true, false, List, [], ◌∷◌, ◌++◌, length, refl}
use Rattle.std.proofs.Common.{sym, ap, inl, inr, arith, length-append}
use Rattle.std.proofs.lemmas.Bool.Decides.{nat_tests}
use Rattle.std.proofs.lemmas.Bool.{false≢true}
use Rattle.std.proofs.lemmas.List.{nil_from_length}
use Rattle.message.specs.Trees.{Tree, atom, variable, joined, locked, size}
use Rattle.attacker.specs.Derivation.{stands, opens, parts, all_parts, total_size}
use Rattle.attacker.specs.Standing.{stands_before, stands_behind, stands_either}

-- whatever one test knows another knows too
abbrev pub Less : (Tree → Bool) → (Tree → Bool) → Type 0
Less known known' = (t : Tree) → known t ≡ true → known' t ≡ true

-- a list that grew into another: no shorter, the same if it is as long, and all that stood still stands
pub record Grown (xs ys : List Tree) : Type 0 where
  pub longer : length xs ≤ length ys
  pub same : length xs ≡ length ys → xs ≡ ys
  pub keeps : (t : Tree) → stands xs t ≡ true → stands ys t ≡ true

-- a list grows into itself
pub grown_self : (xs : List Tree) → Grown xs xs
grown_self xs = record { longer = omega arith; same = λ e. refl; keeps = λ t h. h }

-- the empty list grows into any list
pub grown_none : (ys : List Tree) → Grown [] ys
grown_none ys = record {
  longer = omega arith;
  same = λ e. sym (nil_from_length ys (sym e));
  keeps = λ t h. absurd (false≢true h);
}

-- behind the same first tree
pub grown_cons : (x : Tree) (xs ys : List Tree) → Grown xs ys → Grown (x ∷ xs) (x ∷ ys)
grown_cons x xs ys g = record {
  longer = omega arith;
  same = λ e. let f : length xs ≡ length ys = omega arith in ap (λ l. x ∷ l) (g.same f);
  keeps = λ t h. grind (arith, nat_tests, g.keeps t);
}

-- two lists that grow, one behind the other
pub grown_append : (ps qs us vs : List Tree) → Grown ps qs → Grown us vs → Grown (ps ++ us) (qs ++ vs)
grown_append ps qs us vs g h = record {
  longer = simp length-append (omega arith);
  same = λ e.
      let n = length-append ps us in
      let m = length-append qs vs in
      let a : length ps ≡ length qs = omega arith in
      let c : length us ≡ length vs = omega arith in
      (λ i. g.same a i ++ h.same c i);
  keeps = λ t k. elim (stands_either ps us t k) [
    | inl e ↦ stands_before qs vs t (g.keeps t e)
    | inr e ↦ stands_behind qs vs t (h.keeps t e)
  ];
}

-- with more known no lock shuts
pub opens_more : (known known' : Tree → Bool) → Less known known' → (k : ℕ) → opens known k ≡ true → opens known' k ≡ true
opens_more known known' l k h = grind (arith, nat_tests, l)

-- what a lock gives grows, if it opens no less and what it holds grows
grown_opened : (b c : Bool) → (b ≡ true → c ≡ true) → (xs ys : List Tree) → Grown xs ys → Grown (elim b [ true ↦ xs | false ↦ [] ]) (elim c [ true ↦ ys | false ↦ [] ])
grown_opened true true i xs ys g = g
grown_opened true false i xs ys g = absurd (false≢true (i refl))
grown_opened false true i xs ys g = grown_none ys
grown_opened false false i xs ys g = grown_none []

-- the parts of a message grow with what is known
pub parts_grow : (known known' : Tree → Bool) → Less known known' → (t : Tree) → Grown (parts known t) (parts known' t)
parts_grow known known' l (atom b) = grown_self (atom b ∷ [])
parts_grow known known' l (variable b) = grown_self (variable b ∷ [])
parts_grow known known' l (joined x y) =
    grown_cons (joined x y) (parts known x ++ parts known y) (parts known' x ++ parts known' y)
    (grown_append (parts known x) (parts known' x) (parts known y) (parts known' y) (parts_grow known known' l x) (parts_grow known known' l y))
parts_grow known known' l (locked k x) =
    grown_cons (locked k x) (elim (opens known k) [ true ↦ parts known x | false ↦ [] ]) (elim (opens known' k) [ true ↦ parts known' x | false ↦ [] ])
    (grown_opened (opens known k) (opens known' k) (opens_more known known' l k) (parts known x) (parts known' x) (parts_grow known known' l x))

-- so do the parts of all messages
pub all_grow : (known known' : Tree → Bool) → Less known known' → (ts : List Tree) → Grown (all_parts known ts) (all_parts known' ts)
all_grow known known' l [] = grown_self []
all_grow known known' l (t ∷ ts) =
    grown_append (parts known t) (parts known' t) (all_parts known ts) (all_parts known' ts) (parts_grow known known' l t) (all_grow known known' l ts)

-- a message has no more parts than bytes
pub parts_few : (known : Tree → Bool) (t : Tree) → length (parts known t) ≤ size t
parts_few known (atom b) = omega arith
parts_few known (variable b) = omega arith
parts_few known (joined x y) =
    let p = parts_few known x in
    let q = parts_few known y in
    simp length-append (omega arith)
parts_few known (locked k x) = grind (arith, nat_tests, parts_few known x)

-- nor have all messages together
pub all_few : (known : Tree → Bool) (ts : List Tree) → length (all_parts known ts) ≤ total_size ts
all_few known [] = omega arith
all_few known (t ∷ ts) =
    let p = parts_few known t in
    let q = all_few known ts in
    simp length-append (omega arith)
