-- Going through the kept parts and opening the locks that open now. Assumes nothing.
use Rattle.std.proofs.Common.{◌≡◌, ℕ, ◌+◌, ◌-◌, ◌<◌, ◌≤◌, Bool, true, false, not, List, [], ◌∷◌, ◌++◌, length, get_or, take, drop, Some, MatchBool, sym, refl, ap, ◌∙◌, subst, inl, inr, append_assoc, append-nil, arith}
use borrow.Author.Tests.{clash}
use Rattle.std.specs.Str.{bytes_eq}
use Rattle.std.proofs.lemmas.Slice.Eq.{bytes_eq-Decides}
use Rattle.std.proofs.lemmas.List.{take_all, drop_all, take-append-drop, take_more, drop_more, get_or_append_left, length-append, length-drop, length-take-le}
use Rattle.std.proofs.lemmas.Bool.Decides.{nat_tests}
use Rattle.std.proofs.lemmas.Bool.{or_cases, or_left, and_parts, and_from}
use Rattle.message.specs.Bytes.{inverse_of}
use Rattle.message.specs.Trees.{Tree, atom, variable, joined, locked, write}
use Rattle.attacker.specs.declared.atoms.Atoms.{Atoms}
use Rattle.attacker.specs.declared.known.TheConstants.{MOST_PARTS}
use Rattle.attacker.specs.Atoms.{within}
use Rattle.attacker.specs.Derivation.{Derivable, decryption, opens, parts}
use Rattle.attacker.specs.Known.{State, atom_known, fitting, known_by, composites, signs, weight, weights, opens_now, ClosedForm, Takes, Absorbs, Open, Inside, Parted}
use Rattle.attacker.specs.Laws.{has}
use Rattle.attacker.proofs.Absorbing.{inner_form, no_variable}
use Rattle.attacker.specs.Closing.{opens_from, opens_by}
use Rattle.attacker.proofs.Kept.{form_fits, same_written, has_before, has_behind, has_either}
use Rattle.attacker.proofs.Stepping.{known_still, whole_known, kept_open, parted_on}
use Rattle.attacker.proofs.Weighing.{weight_one, weights_long, weights_append, weight_same, weight_opens, weights_parts, lock_sign}

-- what holds of the heard messages when the first i parts have been gone through
pub record Sofar (opened wider : Atoms) (start : List (List ℕ)) (i : ℕ) (fresh : List (List ℕ)) (heard : List (List ℕ)) (known : Tree → Bool) : Type 0 where
  pub parted : Parted heard known
  pub before : Open opened start known
  pub passed : Open wider (take i start) known
  pub added : Open wider fresh known

-- the parts kept at the start stand first; the locks among the first i of them, and all that came later, are open to the wider set
pub record Scan (opened wider : Atoms) (start : State) (i : ℕ) (here : State) : Type 0 where
  pub fresh : List (List ℕ)
  pub kept_is : here.kept ≡ start.kept ++ fresh
  pub room : weights wider (take i start.kept) + (weights opened (drop i start.kept) + weights wider fresh) ≡ weights opened start.kept
  pub keeps : Inside start.atoms here.atoms
  pub knows : (heard : List (List ℕ)) → Parted heard (known_by start) → Open opened start.kept (known_by start) → Inside wider start.atoms → Sofar opened wider start.kept i fresh heard (known_by here)

-- a lock stays open as more becomes known
pub open_still : (opened : Atoms) (locks : List (List ℕ)) (known known' : Tree → Bool) → ((u : Tree) → known u ≡ true → known' u ≡ true) → Open opened locks known → Open opened locks known'
open_still opened locks known known' more before k j x form h inv op = more x (before k j x form h inv op)

pub open_both : (opened : Atoms) (xs ys : List (List ℕ)) (known : Tree → Bool) → Open opened xs known → Open opened ys known → Open opened (xs ++ ys) known
open_both opened xs ys known p q k j x form h inv op = elim (has_either xs ys (write (locked k x)) h) [ inl e ↦ p k j x form e inv op | inr e ↦ q k j x form e inv op ]

-- a list of one text
pub has_one : (m w : List ℕ) → has (m ∷ []) w ≡ true → m ≡ w
has_one m w h = elim (or_cases (bytes_eq m w) false h) [ inl e ↦ (bytes_eq-Decides m w).0 e | inr e ↦ absurd (clash e) ]

module _ (opened wider : Atoms) (start : State) (inside : Inside opened wider) where
  -- before the first
  pub scan_starts : Scan opened wider start 0 start
  scan_starts = record {
    fresh = [];
    kept_is = sym (append-nil start.kept);
    room = omega arith;
    keeps = λ b h. h;
    knows = λ heard parted before ins. record { parted = parted; before = before; passed = λ k j x form h inv op. absurd (clash h); added = λ k j x form h inv op. absurd (clash h) };
  }

  -- at the next text, m
  module _ (i : ℕ) (m : List ℕ) (front-more : take (i + 1) start.kept ≡ take i start.kept ++ m ∷ []) (Back-more : drop i start.kept ≡ m ∷ drop (i + 1) start.kept) (here : State) (scan : Scan opened wider start i here) where
    -- one text more among those gone through
    open_more : (known : Tree → Bool) → Open wider (take i start.kept) known → Open wider (m ∷ []) known → Open wider (take (i + 1) start.kept) known
    open_more known p q = subst (λ l. Open wider l known) (sym front-more) (open_both wider (take i start.kept) (m ∷ []) known p q)

    -- it is one of those kept at the start
    in_start : has start.kept m ≡ true
    in_start =
        subst (λ l. has l m ≡ true) (ap (λ l. take i start.kept ++ l) (sym Back-more) ∙ take-append-drop i start.kept)
        (has_behind (take i start.kept) (m ∷ drop (i + 1) start.kept) m (or_left (bytes_eq m m) (has (drop (i + 1) start.kept) m) ((bytes_eq-Decides m m).1 refl)))

    -- the room on both sides of it
    front_room : (set : Atoms) → weights set (take (i + 1) start.kept) ≡ weights set (take i start.kept) + weight set m
    front_room set = ap (weights set) front-more ∙ weights_append set (take i start.kept) (m ∷ []) ∙ (let z : weights set (m ∷ []) ≡ weight set m = omega arith in ap (λ n. weights set (take i start.kept) + n) z)

    back_room : (set : Atoms) → weights set (drop i start.kept) ≡ weight set m + weights set (drop (i + 1) start.kept)
    back_room set = ap (weights set) Back-more

    -- no lock, or one that was open before
    module _ (not-now : opens_now opened wider m ≡ false) where
      was_open : (k j : ℕ) (x : Tree) → m ≡ write (locked k x) → inverse_of k ≡ Some j → within wider j ≡ true → opens (atom_known opened) k ≡ true
      was_open k j x is inv op =
          let opener = opens_from (atom_known wider) k j inv op in
          let shut = ap (opens_now opened wider) (sym is) ∙ not-now in
          grind (arith, nat_tests)

      one_open : (known : Tree → Bool) → Open opened start.kept known → Open wider (m ∷ []) known
      one_open known before k j x form h inv op =
          let is : m ≡ write (locked k x) = has_one m (write (locked k x)) h in
          let by = opens_by (atom_known opened) k (was_open k j x is inv op) in
          before k by.0 x form (subst (λ l. has start.kept l ≡ true) is in_start) by.1 by.2

      stays : Scan opened wider start (i + 1) here
      stays = record {
        fresh = scan.fresh;
        kept_is = scan.kept_is;
        room = omega (arith, scan.room, front_room wider, back_room opened, weight_same opened wider inside m not-now);
        keeps = scan.keeps;
        knows = λ heard parted before ins.
            let sofar = scan.knows heard parted before ins in
            record { parted = sofar.parted; before = sofar.before; passed = open_more (known_by here) sofar.passed (one_open (known_by here) sofar.before); added = sofar.added };
      }

      pub scan_past : (next : State) → next ≡ here → Scan opened wider start (i + 1) next
      scan_past next same = subst (Scan opened wider start (i + 1)) (sym same) stays

    -- a lock that opens now
    module _ (k : ℕ) (x : Tree) (form : ClosedForm (locked k x)) (is : write (locked k x) ≡ m) (now : opens_now opened wider m ≡ true)
        (next : State) (took : Takes wider x here next) where
      comes : List (List ℕ)
      comes = composites (parts (atom_known wider) x)

      key : opens (atom_known wider) k ≡ true
      key = (and_parts (opens (atom_known wider) k) (not (opens (atom_known opened) k)) (ap (opens_now opened wider) is ∙ now)).0

      still : (u : Tree) → known_by here u ≡ true → known_by next u ≡ true
      still = known_still wider x (inner_form form) here next took

      -- the lock is known, and so what it locks can be derived
      lock_known : known_by here (locked k x) ≡ true
      lock_known =
          and_from (fitting (locked k x)) (has here.kept (write (locked k x))) (form_fits (locked k x) form)
          (subst (λ l. has l (write (locked k x)) ≡ true) (sym scan.kept_is) (has_before start.kept scan.fresh (write (locked k x)) (subst (λ l. has start.kept l ≡ true) (sym is) in_start)))

      derived : (heard : List (List ℕ)) → Parted heard (known_by here) → Inside wider here.atoms → Derivable heard x
      derived heard parted ins =
          let by = opens_by (atom_known wider) k key in
          decryption by.1 (parted.justified (locked k x) lock_known) (parted.justified (atom by.0) (ins by.0 by.2))

      one_opened : Open wider (m ∷ []) (known_by next)
      one_opened k' j' x' form' h inv op =
          let same : locked k x ≡ locked k' x' = same_written (locked k x) (locked k' x') form.fits.sound form'.fits.sound (is ∙ has_one m (write (locked k' x')) h) in
          let body : x ≡ x' = cc in
          subst (λ u. known_by next u ≡ true) body (whole_known wider x (inner_form form) here next took)

      pub scan_opens : Scan opened wider start (i + 1) next
      unfolding comes
      scan_opens = record {
        fresh = scan.fresh ++ comes;
        kept_is = took.keeps ∙ ap (λ l. l ++ comes) scan.kept_is ∙ append_assoc start.kept scan.fresh comes;
        room =
            let w = weight_opens opened wider m now in
            omega (
              arith,
              scan.room,
              front_room wider,
              back_room opened,
              w.0,
              w.1,
              ap signs (sym is),
              lock_sign k x form,
              weights_append wider scan.fresh comes,
              weights_parts wider x (inner_form form),
            );
        keeps = λ b h. still (atom b) (scan.keeps b h);
        knows = λ heard parted before ins.
            let sofar = scan.knows heard parted before ins in
            let ins' : Inside wider here.atoms = λ b h. scan.keeps b (ins b h) in
            record {
              parted = parted_on wider x (inner_form form) here next took heard sofar.parted ins' (derived heard sofar.parted ins');
              before = open_still opened start.kept (known_by here) (known_by next) still sofar.before;
              passed = open_more (known_by next) (open_still wider (take i start.kept) (known_by here) (known_by next) still sofar.passed) one_opened;
              added = open_both wider scan.fresh comes (known_by next) (open_still wider scan.fresh (known_by here) (known_by next) still sofar.added) (kept_open wider x (inner_form form) here next took);
            };
      }

  -- after the last
  pub scan_ends : (i : ℕ) → length start.kept ≤ i → (here : State) → Scan opened wider start i here
      → (weights wider here.kept ≡ weights opened start.kept)
      × ((heard : List (List ℕ)) → Parted heard (known_by start) → Open opened start.kept (known_by start) → Inside wider start.atoms → Parted heard (known_by here) × Open wider here.kept (known_by here))
  scan_ends i all here scan =
      let front = take_all i start.kept all in (
        ap (weights wider) scan.kept_is ∙ weights_append wider start.kept scan.fresh ∙ omega (arith, scan.room, ap (weights wider) front, ap (weights opened) (drop_all i start.kept all)),
        λ heard parted before ins.
            let sofar = scan.knows heard parted before ins in (
              sofar.parted,
              subst (λ l. Open wider l (known_by here)) (sym scan.kept_is) (open_both wider start.kept scan.fresh (known_by here) (subst (λ l. Open wider l (known_by here)) front sofar.passed) sofar.added),
            ),
      )

-- those kept at the start are all there
pub scan_long : (opened wider : Atoms) (start : State) (i : ℕ) (here : State) → Scan opened wider start i here → length start.kept ≤ length here.kept
scan_long opened wider start i here scan = omega (arith, ap length scan.kept_is, length-append start.kept scan.fresh)

-- a text that begins with the byte that joins is no lock
join_shut : (opened wider : Atoms) (rest : List ℕ) → opens_now opened wider (0xF0 ∷ rest) ≡ false
join_shut opened wider [] = refl
join_shut opened wider (k ∷ rest) = refl

module _ (opened wider : Atoms) (start : State) (inside : Inside opened wider)
    (i : ℕ) (here : State) (scan : Scan opened wider start i here) (within-start : i < length start.kept) (m : List ℕ) (at : get_or here.kept i [] ≡ m) where
  -- the text at i is one of those kept at the start
  start_at : get_or start.kept i [] ≡ m
  start_at = sym (get_or_append_left start.kept scan.fresh [] i within-start) ∙ ap (λ l. get_or l i []) (sym scan.kept_is) ∙ at

  front_at : take (i + 1) start.kept ≡ take i start.kept ++ m ∷ []
  front_at = take_more start.kept i [] within-start ∙ ap (λ l. take i start.kept ++ l ∷ []) start_at

  back_at : drop i start.kept ≡ m ∷ drop (i + 1) start.kept
  back_at = drop_more start.kept i [] within-start ∙ ap (λ l. l ∷ drop (i + 1) start.kept) start_at

  -- there is room to open it
  pub scan_room : weights opened start.kept ≤ MOST_PARTS → length here.kept + (weight opened m - 1) ≤ MOST_PARTS
  scan_room fits =
      omega (
        arith,
        scan.room,
        fits,
        ap length scan.kept_is,
        length-append start.kept scan.fresh,
        ap (weights opened) back_at,
        weight_one opened m,
        weights_long wider (take i start.kept),
        weights_long opened (drop (i + 1) start.kept),
        weights_long wider scan.fresh,
        length-take-le i start.kept (omega arith),
        length-drop (i + 1) start.kept,
      )

  -- one part more
  pub scan_step : (u : Tree) → ClosedForm u → write u ≡ m → (next : State)
      → MatchBool (opens_now opened wider m) (Absorbs wider (drop 2 m) here next) (next ≡ here) → Scan opened wider start (i + 1) next
  scan_step u form is next told = go (opens_now opened wider m) refl told
    where
      opened_lock : (u : Tree) → ClosedForm u → write u ≡ m → opens_now opened wider m ≡ true → Absorbs wider (drop 2 m) here next → Scan opened wider start (i + 1) next
      opened_lock (atom a) form is now took = absurd (clash (ap (opens_now opened wider) is ∙ now))
      opened_lock (variable v) form is now took = no_variable v form
      opened_lock (joined x y) form is now took = absurd (clash (sym (join_shut opened wider (write x ++ write y)) ∙ ap (opens_now opened wider) is ∙ now))
      opened_lock (locked k x) form is now took =
          scan_opens opened wider start inside i m front_at back_at here scan k x form is now next (took x (inner_form form) (ap (drop 2) is))

      go : (b : Bool) → opens_now opened wider m ≡ b → MatchBool b (Absorbs wider (drop 2 m) here next) (next ≡ here) → Scan opened wider start (i + 1) next
      go true now took = opened_lock u form is now took
      go false not-now same = scan_past opened wider start inside i m front_at back_at here scan not-now next same
