-- The form at the front of bytes, and its text.
use Rattle.std.proofs.Common.{◌≡◌, ℕ, ◌<◌, true, List, [], ◌∷◌, ◌++◌, length, get_or, drop, is_some, Some, None, codes, Option, sym, refl, ap, ◌∙◌, append_assoc, append-nil, arith}
use borrow.Author.Tests.{clash}
use Rattle.std.proofs.lemmas.Bool.{and_parts}
use Rattle.message.specs.declared.kind.Symbol.TheVariants.{Join, Lock}
use Rattle.message.specs.Bytes.{symbol, is_atom, is_variable, is_locking}
use Rattle.message.specs.Trees.{Tree, atom, variable, joined, locked, proper, write, form_of, is_form}
use Rattle.message.proofs.OneReading.{write_form}
use Rattle.listing.specs.declared.listing.Listing.{Listing}
use Rattle.listing.specs.Adds.{Added, declared_in}
use Rattle.listing.specs.Texts.{byte_text, tree_text, read_text, form_text}
use Rattle.listing.proofs.Adding.{then}

-- a form has at least one byte
pub none_there : (bs : List ℕ) → length bs < 1 → (t : Tree) (rest : List ℕ) → write t ++ rest ≡ bs → ⊥
none_there bs h (atom b) rest is = omega (arith, ap length is)
none_there bs h (variable b) rest is = omega (arith, ap length is)
none_there bs h (joined x y) rest is = omega (arith, ap length is)
none_there bs h (locked k x) rest is = omega (arith, ap length is)

module _ (bs : List ℕ) (P : Tree → List ℕ → Type 0) where
  -- what holds of each form that may stand at the front
  abbrev pub Each : Type 0
  Each = (t : Tree) (rest : List ℕ) → proper t ≡ true → write t ++ rest ≡ bs → P t rest

  -- two forms joined
  pub at_join : symbol (get_or bs 0 0) ≡ Join → ((x y : Tree) (rest : List ℕ) → proper x ≡ true → proper y ≡ true → write x ++ (write y ++ rest) ≡ drop 1 bs → P (joined x y) rest) → Each
  unfolding is_atom is_variable
  at_join at go (atom b) rest fine is = let e = ap (λ l. symbol (get_or l 0 0)) is in grind arith
  at_join at go (variable b) rest fine is = let e = ap (λ l. symbol (get_or l 0 0)) is in grind arith
  at_join at go (joined x y) rest fine is =
      let parts = and_parts (proper x) (proper y) fine in
      go x y rest parts.0 parts.1 (sym (append_assoc (write x) (write y) rest) ∙ ap (drop 1) is)
  at_join at go (locked k x) rest fine is = let e = ap (λ l. symbol (get_or l 0 0)) is ∙ at in cc

  -- a form locked
  pub at_lock : symbol (get_or bs 0 0) ≡ Lock → ((k : ℕ) (x : Tree) (rest : List ℕ) → proper x ≡ true → drop 1 bs ≡ k ∷ (write x ++ rest) → P (locked k x) rest) → Each
  unfolding is_atom is_variable
  at_lock at go (atom b) rest fine is = let e = ap (λ l. symbol (get_or l 0 0)) is in grind arith
  at_lock at go (variable b) rest fine is = let e = ap (λ l. symbol (get_or l 0 0)) is in grind arith
  at_lock at go (joined x y) rest fine is = let e = ap (λ l. symbol (get_or l 0 0)) is ∙ at in cc
  at_lock at go (locked k x) rest fine is = go k x rest (and_parts (is_locking k) (proper x) fine).1 (sym (ap (drop 1) is))

  -- one byte
  pub at_one : (symbol (get_or bs 0 0) ≡ Join → ⊥) → (symbol (get_or bs 0 0) ≡ Lock → ⊥) → ((rest : List ℕ) → drop 1 bs ≡ rest → P (atom (get_or bs 0 0)) rest × P (variable (get_or bs 0 0)) rest) → Each
  at_one not-join not-lock go (atom b) rest fine is = rw (ap (λ l. get_or l 0 0) is) (go rest (sym (ap (drop 1) is))).0
  at_one not-join not-lock go (variable b) rest fine is = rw (ap (λ l. get_or l 0 0) is) (go rest (sym (ap (drop 1) is))).1
  at_one not-join not-lock go (joined x y) rest fine is = absurd (not-join (sym (ap (λ l. symbol (get_or l 0 0)) is)))
  at_one not-join not-lock go (locked k x) rest fine is = absurd (not-lock (sym (ap (λ l. symbol (get_or l 0 0)) is)))

-- a lock has at least two bytes
pub lock_alone : (bs rest : List ℕ) (P : Tree → List ℕ → Type 0) → rest ≡ drop 1 bs → length rest < 1 → symbol (get_or bs 0 0) ≡ Lock → Each bs P
lock_alone bs rest P behind h at = at_lock bs P at (λ k x more fx is. absurd (omega (arith, ap length (behind ∙ is))))

-- the text of the form at the front of the bytes is added, and those after it are left
abbrev pub Front : Listing → List ℕ → Listing → Tree → List ℕ → Type 0
Front a left b t rest = (left ≡ rest) × Added a b (tree_text (declared_in a) t)

abbrev pub PutFront : Listing → List ℕ → List ℕ → Listing → Type 0
PutFront a bs left b = Each bs (Front a left b)

pub put_one : (bs : List ℕ) {rest : List ℕ} {a b : Listing} → rest ≡ drop 1 bs → (symbol (get_or bs 0 0) ≡ Join → ⊥) → (symbol (get_or bs 0 0) ≡ Lock → ⊥) → Added a b (byte_text (declared_in a) (get_or bs 0 0)) → PutFront a bs rest b
put_one bs {rest} {a} {b} behind not-join not-lock put = at_one bs (Front a rest b) not-join not-lock (λ more is. ((behind ∙ is, put), (behind ∙ is, put)))

pub put_join : (bs : List ℕ) {rest right left : List ℕ} {a b c d e f : Listing} → rest ≡ drop 1 bs → symbol (get_or bs 0 0) ≡ Join → Added a b (codes "(") → PutFront b rest right c → Added c d (codes ",") → PutFront d right left e → Added e f (codes ")") → PutFront a bs left f
put_join bs {left = left} {a} {b} {c} {d} {e} {f} behind at p1 p2 p3 p4 p5 =
    at_join bs (Front a left f) at (λ x y more fx fy is.
    let one = p2 x (write y ++ more) fx (is ∙ sym behind) in
    let two = p4 y more fy (sym one.0) in (
      two.0,
      then (codes "(") (λ ds. tree_text ds x ++ (codes "," ++ (tree_text ds y ++ codes ")"))) p1
          (then (tree_text (declared_in b) x) (λ ds. codes "," ++ (tree_text ds y ++ codes ")")) one.1
          (then (codes ",") (λ ds. tree_text ds y ++ codes ")") p3
          (then (tree_text (declared_in d) y) (λ _. codes ")") two.1 p5))),
    ))

pub put_lock : (bs : List ℕ) {rest inside left : List ℕ} {a b c d e : Listing} → rest ≡ drop 1 bs → inside ≡ drop 1 rest → symbol (get_or bs 0 0) ≡ Lock → Added a b (codes "{") → PutFront b inside left c → Added c d (codes "}") → Added d e (byte_text (declared_in d) (get_or rest 0 0)) → PutFront a bs left e
put_lock bs {left = left} {a} {b} {c} {d} {e} behind further at p1 p2 p3 p4 =
    at_lock bs (Front a left e) at (λ k x more fx is.
    let all = behind ∙ is in
    let one = p2 x more fx (sym (further ∙ ap (drop 1) all)) in (
      one.0,
      then (codes "{") (λ ds. tree_text ds x ++ (codes "}" ++ byte_text ds k)) p1
          (then (tree_text (declared_in b) x) (λ ds. codes "}" ++ byte_text ds k) one.1
          (then (codes "}") (λ ds. byte_text ds k) p3 (rw (ap (λ l. get_or l 0 0) all) at p4))),
    ))

-- the one form that all the bytes are
pub put_whole : (bs left : List ℕ) (a b : Listing) → is_form bs ≡ true → PutFront a bs left b → Added a b (form_text (declared_in a) bs)
put_whole bs left a b e put = go (form_of bs) refl e
  where
    go : (o : Option Tree) → form_of bs ≡ o → is_some o ≡ true → Added a b (read_text (declared_in a) o)
    go None is e = absurd (clash e)
    go (Some t) is e = let w = write_form bs t is in (put t [] w.0.sound (append-nil (write t) ∙ w.1)).1
