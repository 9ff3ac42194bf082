-- What is known of each part of an exchange while a file is read.
use Rattle.std.proofs.Common.{◌≡◌, ℕ, ◌+◌, ◌-◌, ◌<◌, ◌≤◌, true, leb, List, [], ◌∷◌, ◌++◌, map, length, take, sym, refl, ap, ◌∙◌, arith, lit≤}
use Rattle.std.specs.List.{list_all}
use Rattle.std.proofs.lemmas.List.{length_push, get_or_push, take_at, take_all, take_more}
use Rattle.std.proofs.lemmas.Bool.{and_from, le-leb}
use Rattle.exchange.specs.Exchanges.{Declaration, Step, Session, Claim}
use Rattle.exchange.specs.Rules.{once, role_variables, role_at, within, declaration_fits, message_fits, step_fits, role_fits, session_fits, claim_fits}
use Rattle.exchange.proofs.Each.{each_push}

-- the role that was begun last
abbrev pub last_of : List (List Step) → List Step
last_of roles = role_at roles (length roles - 1)

-- the roles before it
abbrev pub front_of : List (List Step) → List (List Step)
front_of roles = take (length roles - 1) roles

-- after one role more it is the last
pub last_push : (roles : List (List Step)) (r : List Step) → last_of (roles ++ r ∷ []) ≡ r
last_push roles r = get_or_push roles r [] (length (roles ++ r ∷ []) - 1) (omega (arith, length_push roles r))

-- and the others are before it
pub front_push : (roles : List (List Step)) (r : List Step) → front_of (roles ++ r ∷ []) ≡ roles
front_push roles r = take_at roles (r ∷ []) (length (roles ++ r ∷ []) - 1) (omega (arith, length_push roles r))

-- the roles are those before the last, and the last
pub front_last : (roles : List (List Step)) → 1 ≤ length roles → roles ≡ front_of roles ++ last_of roles ∷ []
front_last roles h = sym (take_all (length roles - 1 + 1) roles (omega arith)) ∙ take_more roles (length roles - 1) [] (omega arith)

-- there is a role where the last one has a step
pub some_role_lem : (roles : List (List Step)) → 1 ≤ length (last_of roles) → 1 ≤ length roles
some_role_lem [] h = absurd (omega arith)
some_role_lem (r ∷ rest) h = omega arith

-- the declarations fit, and no atom is declared twice
pub record Declared (atoms : List Declaration) : Type 0 where
  pub declarations : list_all declaration_fits atoms ≡ true
  pub declared_once : once (map (λ d. d.atom) atoms) ≡ true

-- the opening messages fit, and are not too many
pub record Opened (names : List ℕ) (opening : List (List ℕ)) : Type 0 where
  pub messages : list_all (message_fits names) opening ≡ true
  pub few_messages : length opening ≤ 32

-- the roles fit, but the last one may still have no step
pub record Played (names : List ℕ) (roles : List (List Step)) : Type 0 where
  pub front : list_all (role_fits names) (front_of roles) ≡ true
  pub few_steps : length (last_of roles) ≤ 12
  pub steps : list_all (step_fits names) (last_of roles) ≡ true
  pub few_variables : leb (length (role_variables (last_of roles))) 8 ≡ true
  pub few_roles : length roles ≤ 4

-- the sessions fit, are not too many, and come after a role with a step
pub record Run (names : List ℕ) (roles : List (List Step)) (sessions : List Session) : Type 0 where
  pub fit : list_all (session_fits names roles) sessions ≡ true
  pub few_sessions : length sessions ≤ 8
  pub some_step : 1 ≤ length sessions → 1 ≤ length (last_of roles)

-- the claims fit, are not too many, and come after a session
pub record Claimed (names : List ℕ) (roles : List (List Step)) (sessions : List Session) (claims : List Claim) : Type 0 where
  pub fit : list_all (claim_fits names roles sessions) claims ≡ true
  pub few_claims : length claims ≤ 8
  pub some_session : 1 ≤ length claims → 1 ≤ length sessions

-- no opening message yet
pub opened_none : (names : List ℕ) → Opened names []
opened_none names = record { messages = refl; few_messages = lit≤ tt }

-- no role yet
pub played_none : (names : List ℕ) → Played names []
played_none names = record { front = refl; few_steps = lit≤ tt; steps = refl; few_variables = refl; few_roles = lit≤ tt }

-- no session yet
pub run_none : (names : List ℕ) (roles : List (List Step)) → Run names roles []
run_none names roles = record { fit = refl; few_sessions = lit≤ tt; some_step = λ h. absurd (omega arith) }

-- no claim yet
pub claimed_none : (names : List ℕ) (roles : List (List Step)) (sessions : List Session) → Claimed names roles sessions []
claimed_none names roles sessions = record { fit = refl; few_claims = lit≤ tt; some_session = λ h. absurd (omega arith) }

-- a last role with a step fits, and so do all
pub roles_fit : (names : List ℕ) (roles : List (List Step)) → Played names roles → 1 ≤ length (last_of roles) → list_all (role_fits names) roles ≡ true
roles_fit names roles p h =
    let size : within 1 12 (length (last_of roles)) ≡ true = and_from _ _ (le-leb 1 (length (last_of roles)) h) (le-leb (length (last_of roles)) 12 p.few_steps) in
    let last : role_fits names (last_of roles) ≡ true = and_from _ _ size (and_from _ _ p.steps p.few_variables) in
    ap (list_all (role_fits names)) (front_last roles (some_role_lem roles h)) ∙ each_push (role_fits names) (front_of roles) (last_of roles) p.front last

-- a last role that is new or has one step more
pub played_push : (names : List ℕ) (front : List (List Step)) (r : List Step) → list_all (role_fits names) front ≡ true → length r ≤ 12 → list_all (step_fits names) r ≡ true → leb (length (role_variables r)) 8 ≡ true → length front < 4 → Played names (front ++ r ∷ [])
played_push names front r before short fits few room = record {
  front = rw (front_push front r) before;
  few_steps = rw (last_push front r) short;
  steps = rw (last_push front r) fits;
  few_variables = rw (last_push front r) few;
  few_roles = omega (arith, length_push front r);
}
