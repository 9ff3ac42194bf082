-- A field that is let through makes the exchange and its bytes one field longer.
use Rattle.std.proofs.Common.{◌≡◌, ℕ, suc, ◌%◌, ◌≤◌, Bool, true, false, ◌&&◌, eqb, leb, List, [], ◌∷◌, ◌++◌, length, Some, None, Ok, Option, sym, refl, ap, ◌∙◌, inl, inr, arith}
use Rattle.std.proofs.lemmas.List.{append-nil}
use Rattle.std.proofs.lemmas.Bool.{and_parts, and_from, or_cases, not-true, leb-true, ltb-true, eqb-true}
use Rattle.message.specs.declared.stop.Stop.TheVariants.{MisplacedTag, WrongLength, LimitPassed, PartMissing}
use Rattle.exchange.specs.declared.tag.Tag.{Tag}
use Rattle.exchange.specs.declared.tag.Tag.TheVariants.{AtomTag, OpeningTag, RoleTag, StepTag, SessionTag, ClaimTag, EndTag}
use Rattle.exchange.specs.Exchanges.{Exchange, Step}
use Rattle.exchange.specs.Files.{field, step_value, body_bytes}
use Rattle.exchange.specs.Rules.{atoms_of, form_in, mark_fits, role_variables, within}
use Rattle.exchange.specs.Checks.{tag_byte, may_follow, is_due, has_room, length_fits, value_item, item_of, step_item, claim_item, form_of, message_of, last_role, with_step, adds, add_step, takes, then, is_end}
use Rattle.exchange.proofs.Growing.{Grown, Grows, Follows, message_ok, form_ok, grows_declaration, grows_opening, grows_role, grows_step, grows_session, grows_claim, grows_end}
use Rattle.exchange.proofs.Items.{step_item_lem, claim_item_lem}
use Rattle.exchange.proofs.Refusing.{ok_same, not_ok, unless_ok, then_ok}

-- the byte of the last tag, or 0 at the start
abbrev pub byte_of : Option Tag → ℕ
byte_of None = 0
byte_of (Some tag) = tag_byte tag

-- the bytes that were read after those of the exchange itself
abbrev pub end_bytes : Bool → List ℕ
end_bytes true = field 0x7F []
end_bytes false = []

-- the bytes that were read
abbrev pub written : Option Tag → Exchange → List ℕ
written last x = body_bytes x ++ end_bytes (is_end last)

-- a tag that may come, comes after no end, and in its order
follows : (last : Option Tag) (tag : Tag) → may_follow last tag ≡ true → (is_end last ≡ false) × Follows (byte_of last) (tag_byte tag)
follows None tag e = (refl, inl (omega arith))
follows (Some last) tag e =
    let p = and_parts _ _ e in (
      not-true (eqb (tag_byte last) 0x7F) p.0,
      elim (or_cases (leb (tag_byte last) (tag_byte tag)) (eqb (tag_byte last) 0x04 && eqb (tag_byte tag) 0x03) p.1) [
        | inl h ↦ inl (leb-true (tag_byte last) (tag_byte tag) h)
        | inr h ↦ let q = and_parts _ _ h in inr (eqb-true (tag_byte last) 0x04 q.0, eqb-true (tag_byte tag) 0x03 q.1)
      ],
    )

-- a number within a range is at most its high end
within_high : (low high n : ℕ) → within low high n ≡ true → n ≤ high
within_high low high n e = leb-true n high (and_parts _ _ e).1

-- no value is long
value_short : (tag : Tag) (n : ℕ) → length_fits tag n ≡ true → n ≤ 26
value_short AtomTag n e = omega (arith, within_high 2 13 n e)
value_short OpeningTag n e = omega (arith, within_high 1 24 n e)
value_short RoleTag n e = omega (arith, eqb-true n 0 e)
value_short StepTag n e = within_high 2 26 n e
value_short SessionTag n e = omega (arith, within_high 1 17 n (and_parts _ _ e).0)
value_short ClaimTag n e = omega (arith, within_high 2 25 n e)
value_short EndTag n e = omega (arith, eqb-true n 0 e)

-- what is known after the field
pub record Taken (x : Exchange) (tag : Tag) (value : List ℕ) (y : Exchange) : Type 0 where
  pub grown : Grown (tag_byte tag) y
  pub longer : written (Some tag) y ≡ body_bytes x ++ field (tag_byte tag) value

module _ (n : ℕ) (x y : Exchange) (g : Grown n x) where
  -- no end yet
  plain : (k : ℕ) (bytes : List ℕ) → Grows k x bytes y → body_bytes y ++ [] ≡ body_bytes x ++ bytes
  plain k bytes h = append-nil (body_bytes y) ∙ h.longer

  -- a step
  takes_step : (value : List ℕ) (s : Step) → value ≡ step_value s → mark_fits s ≡ true → Follows n 4 → is_due x StepTag ≡ true → has_room x StepTag ≡ true → add_step x s ≡ Ok y → Taken x StepTag value y
  takes_step value s is mark after due room e =
      let p = then_ok (form_of (atoms_of x) (form_in s)) _ y e in
      let q = unless_ok (leb (length (role_variables (last_role x ++ s ∷ []))) 8) LimitPassed (Ok (with_step x s)) y p.2 in
      let fits = and_from _ _ mark (form_ok (atoms_of x) (form_in s) p.0 p.1) in
      let h = grows_step n x y g s after (leb-true 1 (length x.roles) due) (ltb-true (length (last_role x)) 12 room) fits q.0 (ok_same (with_step x s) y q.1) in
      rw is (record { grown = h.grown; longer = plain 4 _ h })

  -- a value whose length fits, for each tag
  takes_value : (tag : Tag) (value : List ℕ) → Follows n (tag_byte tag) → is_due x tag ≡ true → has_room x tag ≡ true → length_fits tag (length value) ≡ true → then (value_item tag value) (adds x) ≡ Ok y → Taken x tag value y
  takes_value AtomTag [] after due room size e = absurd (not_ok WrongLength y e)
  takes_value AtomTag (a ∷ label) after due room size e =
      let h = grows_declaration n x y g a label after size e in
      record { grown = h.grown; longer = plain 1 _ h }
  takes_value OpeningTag [] after due room size e = absurd (not_ok WrongLength y e)
  takes_value OpeningTag (b ∷ rest) after due room size e =
      let p = then_ok (message_of (atoms_of x) (b ∷ rest)) _ y e in
      let h = grows_opening n x y g (b ∷ rest) after (ltb-true (length x.opening) 32 room) (message_ok (atoms_of x) (b ∷ rest) p.0 p.1) (ok_same _ y p.2) in
      record { grown = h.grown; longer = plain 2 _ h }
  takes_value RoleTag [] after due room size e =
      let h = grows_role n x y g after due (ltb-true (length x.roles) 4 room) (ok_same _ y e) in
      record { grown = h.grown; longer = plain 3 _ h }
  takes_value RoleTag (b ∷ rest) after due room size e = absurd (omega (arith, eqb-true (suc (length rest)) 0 size))
  takes_value StepTag [] after due room size e = absurd (not_ok WrongLength y e)
  takes_value StepTag (b ∷ rest) after due room size e =
      let p = then_ok (step_item b rest) (adds x) y e in
      let s = step_item_lem b rest p.0 p.1 in
      takes_step (b ∷ rest) s.step s.written s.mark after due room (ap (adds x) (sym s.is) ∙ p.2)
  takes_value SessionTag [] after due room size e = absurd (not_ok WrongLength y e)
  takes_value SessionTag (r ∷ bs) after due room size e =
      let p = and_parts _ _ size in
      let short = within_high 1 17 (suc (length bs)) p.0 in
      let odd = eqb-true (suc (length bs) % 2) 1 p.1 in
      let some = (and_parts _ _ due).1 in
      let h = grows_session n x y g r bs after (leb-true 1 (length (last_role x)) some) (ltb-true (length x.sessions) 8 room) (omega arith) (omega arith) e in
      record { grown = h.grown; longer = plain 5 _ h }
  takes_value ClaimTag [] after due room size e = absurd (not_ok WrongLength y e)
  takes_value ClaimTag (b ∷ rest) after due room size e =
      let p = then_ok (claim_item b rest) (adds x) y e in
      let c = claim_item_lem b rest p.0 p.1 in
      let h = grows_claim n x y g c.claim after (leb-true 1 (length x.sessions) due) (ltb-true (length x.claims) 8 room) c.mark (ap (adds x) (sym c.is) ∙ p.2) in
      record { grown = h.grown; longer = plain 6 _ h ∙ ap (λ v. body_bytes x ++ field 0x06 v) (sym c.written) }
  takes_value EndTag [] after due room size e =
      rw (← ok_same x y e) (record { grown = grows_end n x y g (leb-true 1 (length x.claims) due); longer = refl })
  takes_value EndTag (b ∷ rest) after due room size e = absurd (omega (arith, eqb-true (suc (length rest)) 0 size))

-- a field that was let through
pub takes_ok : (last : Option Tag) (x : Exchange) (tag : Tag) (value : List ℕ) (y : Exchange) → Grown (byte_of last) x → takes last x tag value ≡ Ok y → (is_end last ≡ false) × (length value ≤ 26) × Taken x tag value y
takes_ok last x tag value y g e =
    let p = unless_ok (may_follow last tag) MisplacedTag _ y e in
    let q = unless_ok (is_due x tag) PartMissing _ y p.1 in
    let r = unless_ok (has_room x tag) LimitPassed _ y q.1 in
    let s = then_ok (item_of tag value) (adds x) y r.1 in
    let t = unless_ok (length_fits tag (length value)) WrongLength (value_item tag value) s.0 s.1 in
    let f = follows last tag p.0 in
    (f.0, value_short tag (length value) t.0, takes_value (byte_of last) x y g tag value f.1 q.0 r.0 t.0 (ap (λ i. then i (adds x)) t.1 ∙ s.2))
