-- The file of an exchange that keeps every rule is not too long. Assumes nothing.
use Rattle.std.proofs.Common.{◌≡◌, ℕ, ◌≤◌, true, List, [], ◌++◌, length, arith}
use Rattle.std.specs.List.{flat_map}
use Rattle.std.proofs.lemmas.List.{length-append}
use Rattle.std.proofs.lemmas.Bool.{and_parts, leb-true}
use Rattle.exchange.specs.Exchanges.{Declaration, Step, sends, receives, begins, ends, Session, Claim, secret, session_secret, matched, matched_once, Exchange}
use Rattle.exchange.specs.Files.{field, declaration_field, opening_field, step_field, role_fields, session_field, claim_field, body_bytes, file_bytes}
use Rattle.exchange.specs.Rules.{atoms_of, form_in, role_at, declaration_fits, message_fits, step_fits, role_fits, session_fits, claim_fits, Fit}
use Rattle.exchange.proofs.Apart.{atoms_few}
use Rattle.exchange.proofs.Each.{joined_short, form_short}
use Rattle.exchange.proofs.Pairs.{pairs_length}
use Rattle.exchange.proofs.Passing.{within_both}

-- the length of each part's fields

declaration_size : (d : Declaration) → declaration_fits d ≡ true → length (declaration_field d) ≤ 16
declaration_size d fits =
    let text = (and_parts _ _ fits).1 in
    omega (arith, within_both 1 12 (length d.label) (and_parts _ _ text).1)

module _ (names : List ℕ) where
  opening_size : (m : List ℕ) → message_fits names m ≡ true → length (opening_field m) ≤ 27
  opening_size m fits = omega (arith, form_short m (and_parts _ _ fits).0)

  step_size : (s : Step) → step_fits names s ≡ true → length (step_field s) ≤ 29
  step_size s fits =
      let form = (and_parts _ _ fits).1 in
      go s (form_short (form_in s) (and_parts _ _ form).0)
    where
      go : (s : Step) → (1 ≤ length (form_in s)) × (length (form_in s) ≤ 24) → length (step_field s) ≤ 29
      go (sends f) h = omega arith
      go (receives f) h = omega arith
      go (begins mark f) h = omega arith
      go (ends mark f) h = omega arith

  role_size : (steps : List Step) → role_fits names steps ≡ true → length (role_fields steps) ≤ 351
  role_size steps fits =
      let parts = and_parts _ _ fits in
      let count = within_both 1 12 (length steps) parts.0 in
      omega (arith, joined_short (step_fits names) step_field 29 step_size steps (and_parts _ _ parts.1).0)

  session_size : (roles : List (List Step)) (s : Session) → session_fits names roles s ≡ true → length (session_field s) ≤ 20
  session_size roles s fits =
      let steps = role_at roles s.role in
      let starts = s.starts in
      let own = (and_parts _ _ fits).1 in
      let count = (and_parts _ _ own).0 in
      omega (arith, pairs_length starts, leb-true (length starts) 8 count)

  claim_size : (roles : List (List Step)) (sessions : List Session) (c : Claim) → claim_fits names roles sessions c ≡ true → length (claim_field c) ≤ 28
  claim_size roles sessions (secret m) fits = omega (arith, form_short m (and_parts _ _ fits).0)
  claim_size roles sessions (session_secret s v) fits = omega arith
  claim_size roles sessions (matched mark) fits = omega arith
  claim_size roles sessions (matched_once mark) fits = omega arith

-- the whole file has at most 8192 bytes
pub file_short : (x : Exchange) → Fit x → length (file_bytes x) ≤ 8192
file_short x fit =
    let names = atoms_of x in
    let atoms = flat_map declaration_field x.atoms in
    let opening = flat_map opening_field x.opening in
    let roles = flat_map role_fields x.roles in
    let sessions = flat_map session_field x.sessions in
    let claims = flat_map claim_field x.claims in
    omega (
      arith,
      length-append (body_bytes x) (field 0x7F []),
      length-append atoms (opening ++ (roles ++ (sessions ++ claims))),
      length-append opening (roles ++ (sessions ++ claims)),
      length-append roles (sessions ++ claims),
      length-append sessions claims,
      atoms_few x fit.declarations fit.declared_once,
      joined_short declaration_fits declaration_field 16 declaration_size x.atoms fit.declarations,
      joined_short (message_fits names) opening_field 27 (opening_size names) x.opening fit.messages,
      joined_short (role_fits names) role_fields 351 (role_size names) x.roles fit.roles,
      joined_short (session_fits names x.roles) session_field 20 (session_size names x.roles) x.sessions fit.sessions,
      joined_short (claim_fits names x.roles x.sessions) claim_field 28 (claim_size names x.roles x.sessions) x.claims fit.claims,
    )
