-- One field more: the exchange still keeps the rules so far, and its bytes are one field longer.
use Rattle.std.proofs.Common.{◌≡◌, ℕ, suc, ◌-◌, ◌%◌, ◌<◌, ◌≤◌, true, not, ◌&&◌, ◌||◌, ltb, leb, ◌⊎◌, List, [], ◌∷◌, ◌++◌, length, Ok, sym, refl, ap, ◌∙◌, inl, inr, arith}
use Rattle.std.specs.List.{flat_map, list_all}
use Rattle.std.proofs.lemmas.List.{append-nil, append_assoc, length_push, length-take-le, map_push, nil_from_length}
use Rattle.std.proofs.lemmas.Bool.{and_parts, and_from, or_cases, not-true, leb-true, le-leb}
use Rattle.message.specs.declared.stop.Stop.TheVariants.{BadLabel, NotOneForm, VariableInMessage, UndeclaredAtom, NotAscending, OutOfRange, UnboundVariable, TooManyNewVariables}
use Rattle.message.specs.Bytes.{is_atom}
use Rattle.message.specs.Trees.{is_form, closed}
use Rattle.message.specs.Variables.{among}
use Rattle.exchange.specs.Exchanges.{Declaration, Step, Session, Claim, secret, session_secret, matched, matched_once, Exchange}
use Rattle.exchange.specs.Files.{field, declaration_field, opening_field, step_field, role_fields, session_field, claim_field, body_bytes}
use Rattle.exchange.specs.Rules.{atoms_of, is_label_byte, uses_declared, role_variables, fillable, few_new, role_at, session_at, within, declaration_fits, message_fits, step_fits, role_fits, starts_fit, session_fits, claim_fits}
use Rattle.exchange.specs.Checks.{form_of, message_of, bindings_of, starts_of, last_role, with_declaration, with_opening, with_roles, with_role, with_step, with_session, with_claim, add_declaration, add_session, add_claim}
use Rattle.exchange.proofs.Each.{each_push, once_push, joined_push}
use Rattle.exchange.proofs.Items.{claim_mark}
use Rattle.exchange.proofs.Pairs.{bindings_ok, pairs_length}
use Rattle.exchange.proofs.Parts.{front_of, front_last, Declared, Opened, Played, Run, Claimed, opened_none, played_none, run_none, claimed_none, roles_fit, played_push}
use Rattle.exchange.proofs.Refusing.{ok_same, unless_ok, then_ok}

-- after a field of this tag's byte, or 0 at the start, the parts of later tags are empty
pub record Late (n : ℕ) (x : Exchange) : Type 0 where
  pub no_opening : n ≤ 1 → x.opening ≡ []
  pub no_role : n ≤ 2 → x.roles ≡ []
  pub no_session : n ≤ 4 → x.sessions ≡ []
  pub no_claim : n ≤ 5 → x.claims ≡ []

-- from the first claim on there is no later part
late_none : (n : ℕ) (x : Exchange) → 6 ≤ n → Late n x
late_none n x past = record { no_opening = λ h. absurd (omega arith); no_role = λ h. absurd (omega arith); no_session = λ h. absurd (omega arith); no_claim = λ h. absurd (omega arith) }

-- what is known after such a field
pub record Grown (n : ℕ) (x : Exchange) : Type 0 where
  pub late : Late n x
  pub declared : Declared x.atoms
  pub opened : Opened (atoms_of x) x.opening
  pub played : Played (atoms_of x) x.roles
  pub run : Run (atoms_of x) x.roles x.sessions
  pub claimed : Claimed (atoms_of x) x.roles x.sessions x.claims
  pub some_claim : n ≡ 0x7F → 1 ≤ length x.claims

-- the exchange y, after a field of this tag that is written as these bytes
pub record Grows (n : ℕ) (x : Exchange) (bytes : List ℕ) (y : Exchange) : Type 0 where
  pub grown : Grown n y
  pub longer : body_bytes y ≡ body_bytes x ++ bytes

-- the tag may come after the last one
abbrev pub Follows : ℕ → ℕ → Type 0
Follows n c = (n ≤ c) ⊎ ((n ≡ 4) × (c ≡ 3))

-- a message that was let through
pub message_ok : (atoms m got : List ℕ) → message_of atoms m ≡ Ok got → message_fits atoms m ≡ true
message_ok atoms m got e =
    let p = unless_ok (is_form m) NotOneForm _ got e in
    let q = unless_ok (closed m) VariableInMessage _ got p.1 in
    let r = unless_ok (uses_declared atoms m) UndeclaredAtom (Ok m) got q.1 in
    and_from _ _ p.0 (and_from _ _ q.0 r.0)

-- a form that was let through
pub form_ok : (atoms m got : List ℕ) → form_of atoms m ≡ Ok got → (is_form m && uses_declared atoms m) ≡ true
form_ok atoms m got e =
    let p = unless_ok (is_form m) NotOneForm _ got e in
    let q = unless_ok (uses_declared atoms m) UndeclaredAtom (Ok m) got p.1 in
    and_from _ _ p.0 q.0

module _ (n : ℕ) (x y : Exchange) (g : Grown n x) where
  -- one declaration more
  pub grows_declaration : (a : ℕ) (label : List ℕ) → Follows n 1 → within 2 13 (suc (length label)) ≡ true → add_declaration x a label ≡ Ok y → Grows 1 x (field 0x01 (a ∷ label)) y
  grows_declaration a label follows size e =
      let d : Declaration = record { atom = a; label = label } in
      let p = unless_ok (not (among a (atoms_of x))) NotAscending _ y e in
      let q = unless_ok (is_atom a) OutOfRange _ y p.1 in
      let r = unless_ok (list_all is_label_byte label) BadLabel (Ok (with_declaration x d)) y q.1 in
      let n≤1 : n ≤ 1 = omega arith in
      let opening = g.late.no_opening n≤1 in
      let roles = g.late.no_role (omega arith) in
      let sessions = g.late.no_session (omega arith) in
      let claims = g.late.no_claim (omega arith) in
      let range = and_parts _ _ size in
      let low = leb-true 2 (suc (length label)) range.0 in
      let high = leb-true (suc (length label)) 13 range.1 in
      let short : within 1 12 (length label) ≡ true = and_from _ _ (le-leb 1 (length label) (omega arith)) (le-leb (length label) 12 (omega arith)) in
      let names = map_push (λ (c : Declaration). c.atom) x.atoms d in
      rw (← ok_same (with_declaration x d) y r.1) (record {
        grown = record {
          late = record { no_opening = λ h. opening; no_role = λ h. roles; no_session = λ h. sessions; no_claim = λ h. claims };
          declared = record {
            declarations = each_push declaration_fits x.atoms d g.declared.declarations (and_from _ _ q.0 (and_from _ _ r.0 short));
            declared_once = rw names (once_push (atoms_of x) a g.declared.declared_once (not-true (among a (atoms_of x)) p.0));
          };
          opened = rw opening (opened_none _);
          played = rw roles (played_none _);
          run = rw sessions (run_none _ _);
          claimed = rw claims (claimed_none _ _ _);
          some_claim = λ h. absurd (omega arith);
        };
        longer = simp (opening, roles, sessions, claims, joined_push declaration_field x.atoms d, append-nil);
      })

  -- one opening message more
  pub grows_opening : (m : List ℕ) → Follows n 2 → length x.opening < 32 → message_fits (atoms_of x) m ≡ true → with_opening x m ≡ y → Grows 2 x (field 0x02 m) y
  grows_opening m follows room fits e =
      let n≤2 : n ≤ 2 = omega arith in
      let roles = g.late.no_role n≤2 in
      let sessions = g.late.no_session (omega arith) in
      let claims = g.late.no_claim (omega arith) in
      rw (← e) (record {
        grown = record {
          late = record { no_opening = λ h. absurd (omega arith); no_role = λ h. roles; no_session = λ h. sessions; no_claim = λ h. claims };
          declared = g.declared;
          opened = record {
            messages = each_push (message_fits (atoms_of x)) x.opening m g.opened.messages fits;
            few_messages = omega (arith, length_push x.opening m);
          };
          played = g.played;
          run = g.run;
          claimed = g.claimed;
          some_claim = λ h. absurd (omega arith);
        };
        longer = simp (roles, sessions, claims, joined_push opening_field x.opening m, append-nil, append_assoc);
      })

  -- the roles are replaced, while there is no session and no claim
  grows_roles : (k : ℕ) (roles : List (List Step)) (bytes : List ℕ) → (k ≡ 3) ⊎ (k ≡ 4) → n ≤ 4 → Played (atoms_of x) roles → flat_map role_fields roles ≡ flat_map role_fields x.roles ++ bytes → Grows k x bytes (with_roles x roles)
  grows_roles k roles bytes is n≤4 played more =
      let sessions = g.late.no_session n≤4 in
      let claims = g.late.no_claim (omega arith) in
      record {
        grown = record {
          late = record { no_opening = λ h. absurd (omega arith); no_role = λ h. absurd (omega arith); no_session = λ h. sessions; no_claim = λ h. claims };
          declared = g.declared;
          opened = g.opened;
          played = played;
          run = rw sessions (run_none _ _);
          claimed = rw claims (claimed_none _ _ _);
          some_claim = λ h. absurd (omega arith);
        };
        longer = simp (sessions, claims, more, append-nil, append_assoc);
      }

  -- one role more, without a step
  pub grows_role : Follows n 3 → (leb (length x.roles) 0 || leb 1 (length (last_role x))) ≡ true → length x.roles < 4 → with_role x ≡ y → Grows 3 x (field 0x03 []) y
  grows_role follows due room e =
      let n≤4 : n ≤ 4 = omega arith in
      let before : list_all (role_fits (atoms_of x)) x.roles ≡ true =
      elim (or_cases (leb (length x.roles) 0) (leb 1 (length (last_role x))) due) [
        | inl h ↦ ap (list_all (role_fits (atoms_of x))) (nil_from_length x.roles (omega (arith, leb-true (length x.roles) 0 h)))
        | inr h ↦ roles_fit (atoms_of x) x.roles g.played (leb-true 1 (length (last_role x)) h)
      ] in
      rw (← e) (grows_roles 3 (x.roles ++ [] ∷ []) (field 0x03 []) (inl refl) n≤4
      (played_push (atoms_of x) x.roles [] before (omega arith) refl refl room)
      (joined_push role_fields x.roles []))

  -- one step more in the last role
  pub grows_step : (s : Step) → Follows n 4 → 1 ≤ length x.roles → length (last_role x) < 12 → step_fits (atoms_of x) s ≡ true → leb (length (role_variables (last_role x ++ s ∷ []))) 8 ≡ true → with_step x s ≡ y → Grows 4 x (step_field s) y
  grows_step s follows some room fits few e =
      let n≤4 : n ≤ 4 = omega arith in
      let front = front_of x.roles in
      let last = last_role x in
      let split = front_last x.roles some in
      let more : flat_map role_fields (front ++ (last ++ s ∷ []) ∷ []) ≡ flat_map role_fields x.roles ++ step_field s =
      joined_push role_fields front (last ++ s ∷ [])
      ∙ ap (λ l. flat_map role_fields front ++ (field 0x03 [] ++ l)) (joined_push step_field last s)
      ∙ sym (append_assoc (flat_map role_fields front) (role_fields last) (step_field s))
      ∙ ap (λ l. l ++ step_field s) (sym (ap (flat_map role_fields) split ∙ joined_push role_fields front last)) in
      rw (← e) (grows_roles 4 (front ++ (last ++ s ∷ []) ∷ []) (step_field s) (inr refl) n≤4
      (played_push (atoms_of x) front (last ++ s ∷ []) g.played.front (omega (arith, length_push last s)) (each_push (step_fits (atoms_of x)) last s g.played.steps fits) few
      (omega (arith, length-take-le (length x.roles - 1) x.roles (omega arith), g.played.few_roles)))
      more)

  -- a session that was let through fits, and is written as its value
  session_ok : (r : ℕ) (bs : List ℕ) → length bs ≤ 16 → length bs % 2 ≡ 0 → add_session x r bs ≡ Ok y → (s : Session) × (session_fits (atoms_of x) x.roles s ≡ true) × (session_field s ≡ field 0x05 (r ∷ bs)) × (with_session x s ≡ y)
  session_ok r bs short even e =
      let atoms = atoms_of x in
      let steps = role_at x.roles r in
      let p = unless_ok (ltb r (length x.roles)) OutOfRange _ y e in
      let q = then_ok (starts_of atoms steps bs) (λ got. Ok (with_session x (record { role = r; starts = got }))) y p.1 in
      let starts = q.0 in
      let t = then_ok (bindings_of atoms steps [] bs) _ starts q.1 in
      let u = unless_ok (fillable steps t.0) UnboundVariable _ starts t.2 in
      let v = unless_ok (few_new steps t.0) TooManyNewVariables (Ok t.0) starts u.1 in
      let same = ok_same t.0 starts v.1 in
      let pairs = bindings_ok atoms steps [] bs starts even (record { in_order = refl; fits = refl }) (t.1 ∙ ap Ok same) in
      let few : length starts ≤ 8 = omega (arith, pairs_length starts, ap length pairs.1) in
      let fits : starts_fit atoms steps starts ≡ true =
      and_from _ _ (le-leb (length starts) 8 few) (and_from _ _ pairs.0.in_order (and_from _ _ pairs.0.fits (and_from _ _ (ap (fillable steps) (sym same) ∙ u.0) (ap (few_new steps) (sym same) ∙ v.0)))) in
      (record { role = r; starts = starts }, and_from _ _ p.0 fits, ap (λ l. field 0x05 (r ∷ l)) pairs.1, ok_same _ y q.2)

  -- one session more, which fits
  grows_run : (s : Session) (bytes : List ℕ) → Follows n 5 → 1 ≤ length (last_role x) → length x.sessions < 8 → session_fits (atoms_of x) x.roles s ≡ true → session_field s ≡ bytes → with_session x s ≡ y → Grows 5 x bytes y
  grows_run s bytes follows some room fits written e =
      let n≤5 : n ≤ 5 = omega arith in
      let claims = g.late.no_claim n≤5 in
      let more : flat_map session_field (x.sessions ++ s ∷ []) ≡ flat_map session_field x.sessions ++ bytes = joined_push session_field x.sessions s ∙ ap (λ l. flat_map session_field x.sessions ++ l) written in
      rw (← e) (record {
        grown = record {
          late = record { no_opening = λ h. absurd (omega arith); no_role = λ h. absurd (omega arith); no_session = λ h. absurd (omega arith); no_claim = λ h. claims };
          declared = g.declared;
          opened = g.opened;
          played = g.played;
          run = record {
            fit = each_push (session_fits (atoms_of x) x.roles) x.sessions s g.run.fit fits;
            few_sessions = omega (arith, length_push x.sessions s);
            some_step = λ h. some;
          };
          claimed = rw claims (claimed_none _ _ _);
          some_claim = λ h. absurd (omega arith);
        };
        longer = simp (claims, more, append-nil, append_assoc);
      })

  -- one session more, from its value
  pub grows_session : (r : ℕ) (bs : List ℕ) → Follows n 5 → 1 ≤ length (last_role x) → length x.sessions < 8 → length bs ≤ 16 → length bs % 2 ≡ 0 → add_session x r bs ≡ Ok y → Grows 5 x (field 0x05 (r ∷ bs)) y
  grows_session r bs follows some room short even e =
      let s = session_ok r bs short even e in
      grows_run s.0 (field 0x05 (r ∷ bs)) follows some room s.1 s.2 s.3

  -- a claim that was let through fits
  claim_ok : (c : Claim) → claim_mark c ≡ true → add_claim x c ≡ Ok y → (claim_fits (atoms_of x) x.roles x.sessions c ≡ true) × (with_claim x c ≡ y)
  claim_ok (secret m) mark e =
      let p = then_ok (message_of (atoms_of x) m) _ y e in
      (message_ok (atoms_of x) m p.0 p.1, ok_same _ y p.2)
  claim_ok (session_secret s v) mark e =
      let p = unless_ok (ltb s (length x.sessions)) OutOfRange _ y e in
      let q = unless_ok (among v (role_variables (role_at x.roles (session_at x.sessions s).role))) OutOfRange _ y p.1 in
      (and_from _ _ p.0 q.0, ok_same _ y q.1)
  claim_ok (matched m) mark e = (mark, ok_same _ y e)
  claim_ok (matched_once m) mark e = (mark, ok_same _ y e)

  -- one claim more
  pub grows_claim : (c : Claim) → Follows n 6 → 1 ≤ length x.sessions → length x.claims < 8 → claim_mark c ≡ true → add_claim x c ≡ Ok y → Grows 6 x (claim_field c) y
  grows_claim c follows some room mark e =
      let p = claim_ok c mark e in
      rw (← p.1) (record {
        grown = record {
          late = late_none 6 (with_claim x c) (omega arith);
          declared = g.declared;
          opened = g.opened;
          played = g.played;
          run = g.run;
          claimed = record {
            fit = each_push (claim_fits (atoms_of x) x.roles x.sessions) x.claims c g.claimed.fit p.0;
            few_claims = omega (arith, length_push x.claims c);
            some_session = λ h. some;
          };
          some_claim = λ h. absurd (omega arith);
        };
        longer = simp (joined_push claim_field x.claims c, append_assoc);
      })

  -- the end
  pub grows_end : 1 ≤ length x.claims → Grown 0x7F x
  grows_end some = record {
    late = late_none 0x7F x (omega arith);
    declared = g.declared;
    opened = g.opened;
    played = g.played;
    run = g.run;
    claimed = g.claimed;
    some_claim = λ h. some;
  }
