-- What the full attacker remembers, as it hears one message more, and falls back. Assumes nothing.
use Rattle.std.proofs.Common.{◌≡◌, ℕ, zero, suc, ◌+◌, ◌*◌, ◌<◌, ◌≤◌, min, List, [], ◌∷◌, ◌++◌, length, get_or, take, sym, refl, ap, ◌∙◌, subst, ⊎_elim, arith}
use Rattle.std.proofs.lemmas.List.{take_all, take-take, take-append-le, get_or_past, get_or-map, length-map, length-append, length_push, length-take, map_push, take-map}
use Rattle.std.proofs.lemmas.Bool.{cases_lt}
use Rattle.message.specs.Messages.{message_text}
use Rattle.message.specs.Trees.{Tree, atom, variable, joined, locked, write, size}
use Rattle.attacker.specs.declared.full.Heard.{Heard}
use Rattle.attacker.specs.declared.mark.Mark.{Mark}
use Rattle.attacker.specs.Known.{State, signs, ClosedForm}
use Rattle.attacker.specs.Marks.{heard_texts, marks, mark_of, mark_after, at_mark, Knows, Remembers}
use Rattle.attacker.proofs.Absorbing.{atom_small, no_variable, left_form, right_form, inner_form}
use Rattle.attacker.proofs.Weighing.{signs_append, small_sign, lock_sign}

-- a message of n bytes has fewer than n / 2 joined and locked parts
half_signs : (t : Tree) → ClosedForm t → 2 * signs (write t) + 1 ≤ size t
half_signs (atom b) form = omega (arith, small_sign b (omega (arith, atom_small b form.fits.sound)))
half_signs (variable b) form = no_variable b form
half_signs (joined x y) form = omega (arith, signs_append (write x) (write y), half_signs x (left_form form), half_signs y (right_form form))
half_signs (locked k x) form = omega (arith, lock_sign k x form, half_signs x (inner_form form))

pub few_signs : (t : Tree) → ClosedForm t → signs (write t) ≤ 11
few_signs t form = omega (arith, half_signs t form, form.fits.short)

-- as many messages as records
pub length_heard : (heard : List Heard) → length (heard_texts heard) ≡ length heard
length_heard heard = length-map heard (λ (h : Heard). message_text h.message)

length_marks : (heard : List Heard) → length (marks heard) ≡ length heard
length_marks heard = length-map heard (λ (h : Heard). h.before)

-- at the end of a list, whether it stands there or is what stands past the end
at_push : (xs : List Mark) (y d : Mark) (n : ℕ) → n ≤ length xs → get_or (xs ++ y ∷ []) n d ≡ get_or xs n y
at_push [] y d zero h = refl
at_push [] y d (suc n) h = absurd (omega arith)
at_push (x ∷ xs) y d zero h = refl
at_push (x ∷ xs) y d (suc n) h = at_push xs y d n (omega arith)

-- in the first n of a list, what stands at n being what stands past the end
at_front : (n : ℕ) (xs : List Mark) (d : Mark) (i : ℕ) → get_or (take n xs) i (get_or xs n d) ≡ get_or xs (min i n) d
at_front n xs d i =
    ⊎_elim (λ low. let at : min i n ≡ i = omega arith in below n xs i low ∙ ap (λ j. get_or xs j d) (sym at))
    (λ high. let at : min i n ≡ n = omega arith in get_or_past (take n xs) i (get_or xs n d) (omega (arith, length-take n xs)) ∙ ap (λ j. get_or xs j d) (sym at)) (cases_lt i n)
  where
    below : (n : ℕ) (xs : List Mark) (i : ℕ) → i < n → get_or (take n xs) i (get_or xs n d) ≡ get_or xs i d
    below zero xs i h = absurd (omega arith)
    below (suc n) [] i h = refl
    below (suc n) (x ∷ xs) zero h = refl
    below (suc n) (x ∷ xs) (suc i) h = below n xs i (omega arith)

take_front : (n : ℕ) (xs : List (List ℕ)) (i : ℕ) → take i (take n xs) ≡ take (min i n) xs
take_front n xs i =
    ⊎_elim (λ low. let at : min i n ≡ i = omega arith in take-take i n xs (omega arith) ∙ ap (λ j. take j xs) (sym at))
    (λ high. let at : min i n ≡ n = omega arith in take_all i (take n xs) (omega (arith, length-take n xs)) ∙ ap (λ j. take j xs) (sym at)) (cases_lt i n)

-- the same known in other words
same_knows : {heard heard' : List (List ℕ)} {known known' : State} → heard' ≡ heard → known' ≡ known → Knows heard known → Knows heard' known'
same_knows same_heard same_known = subst (λ (s : List (List ℕ) × State). Knows s.0 s.1) (λ i. (sym same_heard i, sym same_known i))

same_state : (mark mark' : Mark) (known known' : State) → mark' ≡ mark → take mark.parts known'.kept ≡ take mark.parts known.kept → at_mark mark' known' ≡ at_mark mark known
same_state mark mark' known known' same_mark same_kept = ap (λ m. at_mark m known') same_mark ∙ (λ i. record { atoms = mark.atoms; kept = same_kept i })

-- as much as is known now is all of it
all_known : (known : State) → at_mark (mark_of known) known ≡ known
all_known known = λ i. record { atoms = known.atoms; kept = take_all (length known.kept) known.kept (omega arith) i }

module _ (heard : List Heard) (known : State) (sofar : Remembers heard known) where
  -- after all messages as much is known as now
  last_mark : (n : ℕ) → length heard ≤ n → mark_after heard known n ≡ mark_of known
  last_mark n all = get_or_past (marks heard) n (mark_of known) (omega (arith, length_marks heard))

  -- no mark counts more parts than there are
  few_parts : (n : ℕ) → (mark_after heard known n).parts ≤ length known.kept
  few_parts n = omega (arith, sofar.rising n (n + length heard) (omega arith), ap (λ m. m.parts) (last_mark (n + length heard) (omega arith)))

  pub known_now : Knows (heard_texts heard) known
  known_now =
      same_knows (sym (take_all (length heard) (heard_texts heard) (omega (arith, length_heard heard)))) (sym (ap (λ m. at_mark m known) (last_mark (length heard) (omega arith)) ∙ all_known known))
      (sofar.knows (length heard))

  -- one message more
  module _ (next : Heard) (marked : next.before ≡ mark_of known) (known' : State) (fresh : List (List ℕ)) (more : known'.kept ≡ known.kept ++ fresh) where
    old_mark : (n : ℕ) → n ≤ length heard → mark_after (heard ++ next ∷ []) known' n ≡ mark_after heard known n
    old_mark n old =
        ap (λ l. get_or l n (mark_of known')) (map_push (λ (h : Heard). h.before) heard next)
        ∙ at_push (marks heard) next.before (mark_of known') n (omega (arith, length_marks heard))
        ∙ ap (get_or (marks heard) n) marked

    new_mark : (n : ℕ) → length heard < n → mark_after (heard ++ next ∷ []) known' n ≡ mark_of known'
    new_mark n new = get_or_past (marks (heard ++ next ∷ [])) n (mark_of known') (omega (arith, length_marks (heard ++ next ∷ []), length_push heard next))

    old_kept : (n : ℕ) → take (mark_after heard known n).parts known'.kept ≡ take (mark_after heard known n).parts known.kept
    old_kept n = ap (take (mark_after heard known n).parts) more ∙ take-append-le (mark_after heard known n).parts known.kept fresh (few_parts n)

    -- all parts of before are still there
    more_parts : (n : ℕ) → (mark_after (heard ++ next ∷ []) known' n).parts ≤ length known'.kept
    more_parts n =
        ⊎_elim (λ new. omega (arith, ap (λ m. m.parts) (new_mark n new)))
        (λ old. omega (arith, ap (λ m. m.parts) (old_mark n old), few_parts n, ap length more, length-append known.kept fresh)) (cases_lt (length heard) n)

    new_texts : heard_texts (heard ++ next ∷ []) ≡ heard_texts heard ++ message_text next.message ∷ []
    new_texts = map_push (λ (h : Heard). message_text h.message) heard next

    pub remembers_more : Knows (heard_texts heard ++ message_text next.message ∷ []) known' → Remembers (heard ++ next ∷ []) known'
    remembers_more now = record {
      knows = λ n. ⊎_elim
          (λ new. same_knows (take_all n _ (omega (arith, length_heard (heard ++ next ∷ []), length_push heard next)) ∙ new_texts) (ap (λ m. at_mark m known') (new_mark n new) ∙ all_known known') now)
          (λ old. same_knows (ap (take n) new_texts ∙ take-append-le n (heard_texts heard) (message_text next.message ∷ []) (omega (arith, length_heard heard)))
          (same_state (mark_after heard known n) _ known known' (old_mark n old) (old_kept n)) (sofar.knows n))
          (cases_lt (length heard) n);
      rising = λ m n le. ⊎_elim
          (λ new. omega (arith, more_parts m, ap (λ a. a.parts) (new_mark n new)))
          (λ old. omega (arith, ap (λ a. a.parts) (old_mark n old), ap (λ a. a.parts) (old_mark m (omega arith)), sofar.rising m n le)) (cases_lt (length heard) n);
    }

  -- back to what was known after the first n messages
  module _ (n : ℕ) (known' : State) (is : known' ≡ at_mark (mark_after heard known n) known) where
    back_mark : mark_of known' ≡ mark_after heard known n
    back_mark = ap mark_of is ∙ (λ i. record { atoms = (mark_after heard known n).atoms; parts = count i })
      where
        count : length (take (mark_after heard known n).parts known.kept) ≡ (mark_after heard known n).parts
        count = omega (arith, length-take (mark_after heard known n).parts known.kept, few_parts n)

    front_mark : (i : ℕ) → mark_after (take n heard) known' i ≡ mark_after heard known (min i n)
    front_mark i =
        ap (λ d. get_or (marks (take n heard)) i d) back_mark
        ∙ ap (λ l. get_or l i (mark_after heard known n)) (sym (take-map (λ (h : Heard). h.before) n heard))
        ∙ at_front n (marks heard) (mark_of known) i

    front_texts : (i : ℕ) → take i (heard_texts (take n heard)) ≡ take (min i n) (heard_texts heard)
    front_texts i = ap (take i) (sym (take-map (λ (h : Heard). message_text h.message) n heard)) ∙ take_front n (heard_texts heard) i

    front_kept : (i : ℕ) → take (mark_after heard known (min i n)).parts known'.kept ≡ take (mark_after heard known (min i n)).parts known.kept
    front_kept i = ap (λ s. take (mark_after heard known (min i n)).parts s.kept) is ∙ take-take (mark_after heard known (min i n)).parts (mark_after heard known n).parts known.kept (sofar.rising (min i n) n (omega arith))

    pub remembers_back : Remembers (take n heard) known'
    remembers_back = record {
      knows = λ i. same_knows (front_texts i) (same_state (mark_after heard known (min i n)) _ known known' (front_mark i) (front_kept i)) (sofar.knows (min i n));
      rising = λ i j le. omega (arith, ap (λ m. m.parts) (front_mark i), ap (λ m. m.parts) (front_mark j), sofar.rising (min i n) (min j n) (omega arith));
    }

  -- back to those before a message
  pub remembers_before : (n : ℕ) (next : Heard) → n < length heard → next ≡ get_or heard n next → (known' : State) → known' ≡ at_mark next.before known → Remembers (take n heard) known'
  remembers_before n next there at known' is =
      remembers_back n known' (is ∙ ap (λ m. at_mark m known) (ap (λ (h : Heard). h.before) at ∙ sym (get_or-map (λ (h : Heard). h.before) heard n next (mark_of known) there)))

  -- back to all of them
  pub remembers_all : (n : ℕ) → length heard ≤ n → Remembers (take n heard) known
  remembers_all n all = subst (λ l. Remembers l known) (sym (take_all n heard all)) sofar
