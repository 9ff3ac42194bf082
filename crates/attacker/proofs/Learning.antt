-- Hearing one message more: what is known before and after. Assumes nothing.
use Rattle.std.proofs.Common.{◌≡◌, ℕ, ◌+◌, true, false, List, [], ◌∷◌, ◌++◌, length, vec_len, Some, Option, sym, refl, ap, ◌∙◌, subst, inl, inr, append_assoc, append-nil}
use Rattle.std.specs.Str.{bytes_eq}
use Rattle.std.proofs.lemmas.Slice.Eq.{bytes_eq-Decides}
use Rattle.std.proofs.lemmas.List.{length-map}
use Rattle.std.proofs.lemmas.Bool.{or_left, and_parts, and_from}
use Rattle.message.specs.declared.closed.Message.{Message}
use Rattle.message.specs.Messages.{message_text}
use Rattle.message.specs.Trees.{Tree, locked, write, closed, message_of}
use Rattle.message.proofs.OneReading.{form_written}
use Rattle.attacker.specs.declared.atoms.Atoms.{Atoms}
use Rattle.attacker.specs.declared.known.Known.{Known}
use Rattle.attacker.specs.Derivation.{Derivable, heard_whole, parts, Knowledge}
use Rattle.attacker.specs.Known.{State, state_of, atom_known, fitting, known_by, composites, signs, weights, ClosedForm, Takes, Open, Opens, Inside, Parted}
use Rattle.attacker.specs.Laws.{has}
use Rattle.attacker.proofs.Absorbing.{message_write}
use Rattle.attacker.specs.Deciding.{derivable_more}
use Rattle.attacker.proofs.Kept.{form_fits, fits_form, has_before, has_behind, has_either}
use Rattle.attacker.proofs.Scanning.{has_one}
use Rattle.attacker.proofs.Weighing.{weights_append, weights_parts}
use Rattle.attacker.proofs.Stepping.{known_still, known_or_out, out_open, whole_known, justified_on, left_on, right_on}

-- a message is a form with no variable
pub message_tree : (m : Message) → (t : Tree) × ClosedForm t × (write t ≡ message_text m)
message_tree m =
    let found = form_written (message_text m) m.form.reads in
    (found.0, record { fits = found.1; fixed = ap closed found.2 ∙ m.fixed }, found.2)

-- as many texts are kept as there are parts
pub kept_count : (known : Known) → length (state_of known).kept ≡ vec_len known.parts
kept_count known = length-map known.parts.items message_text ∙ sym known.parts.ok.0

-- parted knowledge whose locks are open to all its atoms is closed under the rules
pub settled : (heard : List (List ℕ)) (known : State) → Parted heard (known_by known) → Open known.atoms known.kept (known_by known) → Knowledge heard (known_by known)
settled heard known parted all-open = record {
  justified = parted.justified;
  hears = parted.hears;
  parts_left = parted.parts_left;
  parts_right = parted.parts_right;
  unlocks = λ k j x inv h op.
      let p = and_parts (fitting (locked k x)) (has known.kept (write (locked k x))) h in
      all-open k j x (fits_form (locked k x) p.0) p.1 inv op;
}

module _ (heard : List (List ℕ)) (t : Tree) (form : ClosedForm t) (old new : State)
    (took : Takes old.atoms t old new) (before : Knowledge heard (known_by old)) where
  -- the message is derived now, and what was known still is
  now_derived : Derivable (heard ++ write t ∷ []) t
  now_derived = heard_whole (write t) (has_behind heard (write t ∷ []) (write t) (or_left (bytes_eq (write t) (write t)) false ((bytes_eq-Decides (write t) (write t)).1 refl))) (message_write t form)

  still_derived : (u : Tree) → known_by old u ≡ true → Derivable (heard ++ write t ∷ []) u
  still_derived u h = derivable_more heard (heard ++ write t ∷ []) (λ m i. has_before heard (write t ∷ []) m i) (before.justified u h)

  now_hears : (m : List ℕ) (u : Tree) → has (heard ++ write t ∷ []) m ≡ true → message_of m ≡ Some u → known_by new u ≡ true
  now_hears m u h e =
      elim (has_either heard (write t ∷ []) m h) [
        | inl f ↦ known_still old.atoms t form old new took u (before.hears m u f e)
        | inr f ↦
            let is : write t ≡ m = has_one (write t) m f in
            let both : ◌≡◌ {A = Option Tree} (Some t) (Some u) = sym (message_write t form) ∙ ap message_of is ∙ e in
            let same : t ≡ u = cc in
            subst (λ v. known_by new v ≡ true) same (whole_known old.atoms t form old new took)
      ]

  pub parted_now : Parted (heard ++ write t ∷ []) (known_by new)
  parted_now = record {
    justified = justified_on old.atoms t form old new took (heard ++ write t ∷ []) still_derived (λ b h. h) now_derived;
    hears = now_hears;
    parts_left = left_on old.atoms t form old new took before.parts_left;
    parts_right = right_on old.atoms t form old new took before.parts_right;
  }

  -- the locks that were open are open, and so are those that are kept now
  pub open_now : Open old.atoms new.kept (known_by new)
  open_now k j x f h inv op =
      let all : known_by new (locked k x) ≡ true = and_from (fitting (locked k x)) (has new.kept (write (locked k x))) (form_fits (locked k x) f) h in
      elim (known_or_out old.atoms t form old new took (locked k x) all) [
        | inl e ↦ known_still old.atoms t form old new took x (before.unlocks k j x inv e op)
        | inr e ↦ out_open old.atoms t form old new took k j x e inv op
      ]

-- after some rounds of opening locks with the atoms found before
pub record Opening (first : Atoms) (start : State) (opened : Atoms) (now : State) : Type 0 where
  pub inside : Inside opened now.atoms
  pub room : weights opened now.kept ≡ weights first start.kept
  pub fresh : List (List ℕ)
  pub after : now.kept ≡ start.kept ++ fresh
  pub knows : (heard : List (List ℕ)) → Parted heard (known_by start) → Open first start.kept (known_by start) → Parted heard (known_by now) × Open opened now.kept (known_by now)

pub opening_starts : (opened : Atoms) (now : State) → Inside opened now.atoms → Opening opened now opened now
opening_starts opened now ins = record { inside = ins; room = refl; fresh = []; after = sym (append-nil now.kept); knows = λ heard parted opn. (parted, opn) }

pub opening_on : (first : Atoms) (start : State) (opened : Atoms) (now next : State) → Opening first start opened now → Opens opened now.atoms now next → weights now.atoms next.kept ≡ weights opened now.kept → Inside now.atoms next.atoms
    → Opening first start now.atoms next
opening_on first start opened now next sofar round same keeps = record {
  inside = keeps;
  room = same ∙ sofar.room;
  fresh = sofar.fresh ++ round.fresh;
  after = round.after ∙ ap (λ l. l ++ round.fresh) sofar.after ∙ append_assoc start.kept sofar.fresh round.fresh;
  knows = λ heard parted opn. let p = sofar.knows heard parted opn in round.knows heard p.0 p.1 (λ b h. h);
}

-- taking a message apart adds the room of its parts
pub room_after : (opened : Atoms) (t : Tree) (form : ClosedForm t) (old new : State) → Takes opened t old new → weights opened new.kept ≡ weights opened old.kept + signs (write t)
room_after opened t form old new took =
    ap (weights opened) took.keeps ∙ weights_append opened old.kept (composites (parts (atom_known opened) t)) ∙ ap (λ n. weights opened old.kept + n) (weights_parts opened t form)
