-- A file is accepted only as an exchange that keeps every rule and whose file it is.
use Rattle.std.proofs.Common.{◌≡◌, ℕ, zero, suc, ◌+◌, ◌≤◌, true, false, ◌&&◌, leb, List, [], ◌++◌, length, drop, Some, None, Ok, Err, Option, Result, sym, refl, ap, ◌∙◌, subst, arith}
use borrow.Author.Tests.{clash}
use Rattle.std.specs.Option.{ok_or}
use Rattle.std.proofs.lemmas.List.{append-nil, append_assoc, length-append, drop_at, nil_from_length}
use Rattle.std.proofs.lemmas.Bool.{and_parts, leb-true, eqb-true}
use Rattle.message.specs.declared.stop.Stop.{Stop}
use Rattle.message.specs.declared.stop.Stop.TheVariants.{FileTooLong, Incomplete, MisplacedTag}
use Rattle.exchange.specs.declared.tag.Tag.{Tag}
use Rattle.exchange.specs.Exchanges.{Exchange}
use Rattle.exchange.specs.Files.{field, body_bytes, file_bytes}
use Rattle.exchange.specs.Rules.{Fit, atoms_of}
use Rattle.exchange.specs.Checks.{Turn, turn_by, turn, Outcome, accepted, refused, tag_of, tag_byte, takes, cut, is_end, onward, reading, blank}
use Rattle.exchange.specs.Lossless.{Faithful}
use Rattle.exchange.proofs.Cutting.{cut_field}
use Rattle.exchange.proofs.Growing.{Grown}
use Rattle.exchange.proofs.Parts.{some_role_lem, opened_none, played_none, run_none, claimed_none, roles_fit}
use Rattle.exchange.proofs.Refusing.{ok_same, then_ok, ok_or_ok, either_way}
use Rattle.exchange.proofs.Taken.{byte_of, end_bytes, written, Taken, takes_ok}

-- at the end nothing is missing
fit_grown : (x : Exchange) → Grown 0x7F x → Fit x
fit_grown x g =
    let claim = g.some_claim refl in
    let session = g.claimed.some_session claim in
    let step = g.run.some_step session in
    record {
      declarations = g.declared.declarations;
      declared_once = g.declared.declared_once;
      messages = g.opened.messages;
      few_messages = g.opened.few_messages;
      roles = roles_fit (atoms_of x) x.roles g.played step;
      some_role = some_role_lem x.roles step;
      few_roles = g.played.few_roles;
      sessions = g.run.fit;
      some_session = session;
      few_sessions = g.run.few_sessions;
      claims = g.claimed.fit;
      some_claim = claim;
      few_claims = g.claimed.few_claims;
    }

-- a turn that was taken: the field at the front, and what comes after it
record Turned (last : Option Tag) (x : Exchange) (bytes : List ℕ) (t : Turn) : Type 0 where
  value : List ℕ
  rest : List ℕ
  goes_on : is_end last ≡ false
  front : bytes ≡ field (tag_byte t.tag) value ++ rest
  size : t.size ≡ 3 + length value
  taken : Taken x t.tag value t.exchange

-- a turn that was not refused was taken
turn_ok : (last : Option Tag) (x : Exchange) (bytes : List ℕ) (t : Turn) → Grown (byte_of last) x → turn last x bytes ≡ Ok t → Turned last x bytes t
turn_ok last x bytes t g e =
    let p = then_ok (ok_or (cut bytes) Incomplete) _ t e in
    let f = p.0 in
    let q = then_ok (ok_or (tag_of f.0) MisplacedTag) (turn_by last x f.1) t p.2 in
    let r = then_ok (takes last x q.0 f.1) _ t q.2 in
    let k = takes_ok last x q.0 f.1 r.0 g r.1 in
    let c = cut_field bytes f q.0 (ok_or_ok (cut bytes) Incomplete f p.1) (ok_or_ok (tag_of f.0) MisplacedTag q.0 q.1) (omega (arith, k.1)) in
    rw (← ok_same _ t r.2) (record { value = f.1; rest = c.0; goes_on = k.0; front = c.1; size = refl; taken = k.2 })

-- the outcome was not a refusal of this turn
onward_accepted : (r : Result Turn Stop) (at : ℕ) (next : Turn → Outcome) (z : Exchange) → onward r at next ≡ accepted z → (t : Turn) × (r ≡ Ok t) × (next t ≡ accepted z)
onward_accepted (Ok t) at next z e = (t, refl, e)
onward_accepted (Err stop) at next z e = let w : ◌≡◌ {A = ℕ} 0 1 = cc in absurd (omega arith)

-- the last tag is the end's
end_byte : (last : Option Tag) → is_end last ≡ true → byte_of last ≡ 0x7F
end_byte None e = absurd (clash e)
end_byte (Some tag) e = eqb-true (tag_byte tag) 0x7F e

module _ (file : List ℕ) (z : Exchange) where
  -- nothing follows the end
  accepted_end : (last : Option Tag) (x : Exchange) (rest : List ℕ) → Grown (byte_of last) x → file ≡ written last x ++ rest → is_end last ≡ true → length file ≤ length (written last x) → x ≡ z → Fit z × (file_bytes z ≡ file)
  accepted_end last x rest g whole end short same =
      let none = nil_from_length rest (omega (arith, ap length whole, length-append (written last x) rest)) in
      rw (← same) (
        fit_grown x (subst (λ n. Grown n x) (end_byte last end) g),
        sym (whole ∙ ap (λ l. written last x ++ l) none ∙ append-nil (written last x) ∙ ap (λ b. body_bytes x ++ end_bytes b) end),
      )

  -- reading on, from bytes that are those of the exchange so far
  reading_ok : (n at : ℕ) (last : Option Tag) (x : Exchange) (rest : List ℕ) → Grown (byte_of last) x → file ≡ written last x ++ rest → length (written last x) ≡ at → reading n file at last x ≡ accepted z → Fit z × (file_bytes z ≡ file)
  unfolding reading
  reading_ok zero at last x rest g whole here e = let w : ◌≡◌ {A = ℕ} 0 1 = cc in absurd (omega arith)
  reading_ok (suc n) at last x rest g whole here e =
      either_way (Fit z × (file_bytes z ≡ file)) (is_end last && leb (length file) at) (accepted x) _ (accepted z)
      (λ done same.
      let p = and_parts _ _ done in
      accepted_end last x rest g whole p.0 (omega (arith, leb-true (length file) at p.1)) (cc))
      (λ h.
      let o = onward_accepted (turn last x (drop at file)) at _ z h in
      let t = o.0 in
      let k = turn_ok last x (drop at file) t g o.1 in
      let left : drop at file ≡ rest = ap (drop at) whole ∙ drop_at (written last x) rest at here in
      let bytes = field (tag_byte t.tag) k.value in
      let body : written last x ≡ body_bytes x = ap (λ b. body_bytes x ++ end_bytes b) k.goes_on ∙ append-nil (body_bytes x) in
      let longer : written last x ++ bytes ≡ written (Some t.tag) t.exchange = ap (λ l. l ++ bytes) body ∙ sym k.taken.longer in
      reading_ok n (at + t.size) (Some t.tag) t.exchange k.rest k.taken.grown
      (whole ∙ ap (λ l. written last x ++ l) (sym left ∙ k.front) ∙ sym (append_assoc (written last x) bytes k.rest) ∙ ap (λ l. l ++ k.rest) longer)
      (omega (arith, ap length longer, length-append (written last x) bytes, k.size))
      o.2)
      e

-- at the start all parts are empty
grown_blank : Grown 0 blank
grown_blank = record {
  late = record { no_opening = λ h. refl; no_role = λ h. refl; no_session = λ h. refl; no_claim = λ h. refl };
  declared = record { declarations = refl; declared_once = refl };
  opened = opened_none [];
  played = played_none [];
  run = run_none [] [];
  claimed = claimed_none [] [] [];
  some_claim = λ h. absurd (omega arith);
}

-- from the start
pub faithful : Faithful
faithful file x e =
    either_way (Fit x × (file_bytes x ≡ file)) (leb (length file) 8192) (reading (suc (length file)) file 0 None blank) (refused FileTooLong 0) (accepted x)
    (λ fits h. reading_ok file x (suc (length file)) 0 None blank file grown_blank refl refl h)
    (λ h. let w : ◌≡◌ {A = ℕ} 0 1 = cc in absurd (omega arith))
    e
