-- What the reader of forms answers, byte by byte. Assumes nothing.
use Rattle.std.proofs.Common.{◌≡◌, ℕ, zero, suc, ◌+◌, ◌<◌, ◌≤◌, true, false, List, [], ◌∷◌, length, get_or, drop, Some, None, Option, sym, refl, ap, ◌∙◌, arith, length-drop}
use Rattle.std.specs.Option.{option_map}
use Rattle.message.specs.declared.kind.Kind.{Kind}
use Rattle.message.specs.declared.kind.Symbol.{Symbol}
use Rattle.message.specs.declared.kind.Symbol.TheVariants.{Atom, Variable, Join, Lock, Unused}
use Rattle.message.specs.Bytes.{symbol, is_locking}
use Rattle.message.specs.Trees.{Tree, joined, locked, size, reads, reads_by, and_then}

-- r is the length of the form at the front of bs, whatever depth of reading is enough
abbrev pub Says : List ℕ → Option ℕ → Type 0
Says bs r = (f : ℕ) → length bs ≤ f → r ≡ option_map size (reads f bs)

-- what was mapped to something was something
pub some_under : {A B : Type 0} (g : A → B) (o : Option A) (v : B) → Some v ≡ option_map g o → (x : A) × (o ≡ Some x) × (g x ≡ v)
some_under g None v e = let z : ◌≡◌ {A = ℕ} 0 1 = cc in absurd (omega arith)
some_under g (Some x) v e = (x, refl, cc)

-- what was mapped to nothing was nothing
pub none_under : {A B : Type 0} (g : A → B) (o : Option A) → None ≡ option_map g o → o ≡ None
none_under g None e = refl
none_under g (Some x) e = let z : ◌≡◌ {A = ℕ} 0 1 = cc in absurd (omega arith)

-- one step of the reader, at a byte whose meaning is known
pub reads_step : (f b : ℕ) (bs : List ℕ) (s : Symbol) → symbol b ≡ s → reads (suc f) (b ∷ bs) ≡ reads_by s b bs (reads f)
unfolding reads
reads_step f b bs s e = ap (λ s. reads_by s b bs (reads f)) e

pub says_empty : (bs : List ℕ) → length bs ≡ 0 → Says bs None
unfolding reads
says_empty [] h zero p = refl
says_empty [] h (suc f) p = refl
says_empty (b ∷ bs) h f p = absurd (omega arith)

joined_sizes : (x : Tree) (o : Option Tree) → option_map (λ n. (1 + size x) + n) (option_map size o) ≡ option_map size (and_then o (λ y. Some (joined x y)))
joined_sizes x None = refl
joined_sizes x (Some y) = ap Some (omega arith)

locked_sizes : (k : ℕ) (o : Option Tree) → option_map (λ n. 2 + n) (option_map size o) ≡ option_map size (and_then o (λ x. Some (locked k x)))
locked_sizes k None = refl
locked_sizes k (Some x) = refl

-- the form that begins with the byte b, by what b means
module _ (b : ℕ) (bs : List ℕ) where
  -- what one step of the reader gives is what it says of the whole
  says_step : (s : Symbol) (r : Option ℕ) → symbol b ≡ s → ((f : ℕ) → length bs ≤ f → r ≡ option_map size (reads_by s b bs (reads f))) → Says (b ∷ bs) r
  says_step s r e go zero p = absurd (omega arith)
  says_step s r e go (suc f) p = go f (omega arith) ∙ ap (option_map size) (sym (reads_step f b bs s e))

  pub says_atom : (k : Kind) → symbol b ≡ Atom k → Says (b ∷ bs) (Some 1)
  says_atom k e = says_step (Atom k) (Some 1) e (λ f p. refl)

  pub says_variable : (k : Kind) → symbol b ≡ Variable k → Says (b ∷ bs) (Some 1)
  says_variable k e = says_step (Variable k) (Some 1) e (λ f p. refl)

  pub says_unused : symbol b ≡ Unused → Says (b ∷ bs) None
  says_unused e = says_step Unused None e (λ f p. refl)

  -- two forms joined: the first, then what follows it
  pub join_no_left : symbol b ≡ Join → Says bs None → Says (b ∷ bs) None
  join_no_left join none =
      says_step Join None join (λ f p. ap (λ o. option_map size (and_then o (λ x. and_then (reads f (drop (size x) bs)) (λ y. Some (joined x y))))) (sym (none_under size (reads f bs) (none f p))))

  pub join_both : symbol b ≡ Join → (l : ℕ) (r : Option ℕ) → Says bs (Some l) → Says (drop l bs) r → Says (b ∷ bs) (option_map (λ n. (1 + l) + n) r)
  join_both join l r left right = says_step Join (option_map (λ n. (1 + l) + n) r) join go
    where
      go : (f : ℕ) → length bs ≤ f → option_map (λ n. (1 + l) + n) r ≡ option_map size (reads_by Join b bs (reads f))
      go f p =
          let found = some_under size (reads f bs) l (left f p) in
          let x = found.0 in
          let fits : length (drop l bs) ≤ f = omega (arith, length-drop l bs) in
          let after : r ≡ option_map size (reads f (drop (size x) bs)) = right f fits ∙ ap (λ n. option_map size (reads f (drop n bs))) (sym found.2) in
          ap (option_map (λ n. (1 + l) + n)) after
          ∙ ap (λ m. option_map (λ n. (1 + m) + n) (option_map size (reads f (drop (size x) bs)))) (sym found.2)
          ∙ joined_sizes x (reads f (drop (size x) bs))
          ∙ ap (λ o. option_map size (and_then o (λ x. and_then (reads f (drop (size x) bs)) (λ y. Some (joined x y))))) (sym found.1)

-- a form locked: what may lock, then the form
pub lock_alone : (b : ℕ) (bs : List ℕ) → symbol b ≡ Lock → length bs < 1 → Says (b ∷ bs) None
lock_alone b [] lock none = says_step b [] Lock None lock (λ f p. refl)
lock_alone b (k ∷ bs) lock none = absurd (omega arith)

module _ (b : ℕ) where
  pub lock_refused : (bs : List ℕ) → 1 ≤ length bs → symbol b ≡ Lock → is_locking (get_or bs 0 0) ≡ false → Says (b ∷ bs) None
  lock_refused [] some lock refused = absurd (omega arith)
  lock_refused (k ∷ bs) some lock refused =
      says_step b (k ∷ bs) Lock None lock (λ f p. ap (λ y. option_map size (elim y as (λ _. Option Tree) [ true ↦ and_then (reads f bs) (λ x. Some (locked k x)) | false ↦ None ])) (sym refused))

  pub lock_inside : (bs : List ℕ) → 1 ≤ length bs → symbol b ≡ Lock → is_locking (get_or bs 0 0) ≡ true → (r : Option ℕ) → Says (drop 1 bs) r → Says (b ∷ bs) (option_map (λ n. 2 + n) r)
  lock_inside [] some lock key r inside = absurd (omega arith)
  lock_inside (k ∷ bs) some lock key r inside =
      says_step b (k ∷ bs) Lock (option_map (λ n. 2 + n) r) lock
      (λ f p. ap (option_map (λ n. 2 + n)) (inside f (omega arith)) ∙ locked_sizes k (reads f bs) ∙ ap (λ y. option_map size (elim y as (λ _. Option Tree) [ true ↦ and_then (reads f bs) (λ x. Some (locked k x)) | false ↦ None ])) (sym key))
