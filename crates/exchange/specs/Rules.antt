-- The rules that an exchange keeps, in the words of the subject.
use Rattle.std.specs.Prelude.{◌≡◌, ℕ, zero, suc, ◌≤◌, Bool, true, not, ◌&&◌, ◌||◌, ltb, List, [], ◌∷◌, map, length, take, filter, nat_le, nat_lt, slice_index_or}
use Rattle.std.specs.List.{flat_map, list_all}
use Rattle.message.specs.Bytes.{is_atom, is_variable}
use Rattle.message.specs.Filling.{of_kind}
use Rattle.message.specs.Trees.{is_form, closed}
use Rattle.message.specs.Variables.{among, firsts}
use Rattle.exchange.specs.Exchanges.{Declaration, Step, sends, receives, begins, ends, Binding, Session, Claim, secret, session_secret, matched, matched_once, Exchange}

-- the test holds of each number below n
abbrev pub each_below : ℕ → (ℕ → Bool) → Bool
each_below zero test = true
each_below (suc n) test = each_below n test && test n

-- no number stands twice
abbrev pub once : List ℕ → Bool
once [] = true
once (a ∷ rest) = not (among a rest) && once rest

-- atoms

-- the atoms that are declared
abbrev pub atoms_of : Exchange → List ℕ
atoms_of x = map (λ d. d.atom) x.atoms

-- a byte that a label may have
abbrev pub is_label_byte : ℕ → Bool
is_label_byte b = nat_le 0x21 b && nat_le b 0x7E

-- each atom of the bytes is among those declared
abbrev pub is_declared : List ℕ → ℕ → Bool
is_declared atoms b = not (is_atom b) || among b atoms

abbrev pub uses_declared : List ℕ → List ℕ → Bool
uses_declared atoms bs = list_all (is_declared atoms) bs

-- steps and roles

-- the form of a step
abbrev pub form_in : Step → List ℕ
form_in (sends f) = f
form_in (receives f) = f
form_in (begins mark f) = f
form_in (ends mark f) = f

-- a mark is below 16; a send and a receive have none
abbrev pub mark_fits : Step → Bool
mark_fits (sends f) = true
mark_fits (receives f) = true
mark_fits (begins mark f) = nat_lt mark 16
mark_fits (ends mark f) = nat_lt mark 16

-- the variables of a role: those of its forms, each once
abbrev pub role_variables : List Step → List ℕ
role_variables steps = firsts (flat_map form_in steps)

-- the bytes of the forms that the steps receive
abbrev pub received_in : Step → List ℕ
received_in (sends f) = []
received_in (receives f) = f
received_in (begins mark f) = []
received_in (ends mark f) = []

-- the variables that have values from the start
abbrev pub started : List Binding → List ℕ
started starts = map (λ b. b.variable) starts

-- the variable has a value after these steps: from the start, or received
abbrev pub is_bound : List Binding → List Step → ℕ → Bool
is_bound starts before v = among v (started starts) || among v (flat_map received_in before)

-- each variable of the bytes has a value after these steps
abbrev pub all_bound : List Binding → List Step → List ℕ → Bool
all_bound starts before bs = list_all (λ b. not (is_variable b) || is_bound starts before b) bs

-- a step that comes after these can be filled: a send, begin or end has no variable without a value
abbrev pub can_fill : List Binding → List Step → Step → Bool
can_fill starts before (sends f) = all_bound starts before f
can_fill starts before (receives f) = true
can_fill starts before (begins mark f) = all_bound starts before f
can_fill starts before (ends mark f) = all_bound starts before f

-- the variables of a form that have no value after these steps, in order of first occurrence
abbrev pub new_in : List Binding → List Step → List ℕ → List ℕ
new_in starts before f = filter (λ v. not (is_bound starts before v)) (firsts f)

-- a receive that comes after these has at most 3 new variables
abbrev pub binds_few : List Binding → List Step → Step → Bool
binds_few starts before (sends f) = true
binds_few starts before (receives f) = nat_le (length (new_in starts before f)) 3
binds_few starts before (begins mark f) = true
binds_few starts before (ends mark f) = true

-- the step at a line; lines count from 0
abbrev pub step_at : List Step → ℕ → Step
step_at steps line = slice_index_or steps line (sends [])

-- a test holds of each step of a role, after the starting values and the steps before it
abbrev pub throughout : (List Binding → List Step → Step → Bool) → List Step → List Binding → Bool
throughout test steps starts = each_below (length steps) (λ line. test starts (take line steps) (step_at steps line))

-- each send, begin and end of the role can be filled when it comes
abbrev pub fillable : List Step → List Binding → Bool
fillable steps starts = throughout can_fill steps starts

-- no receive of the role has more than 3 new variables
abbrev pub few_new : List Step → List Binding → Bool
few_new steps starts = throughout binds_few steps starts

-- sessions

-- the role of a number
abbrev pub role_at : List (List Step) → ℕ → List Step
role_at roles r = slice_index_or roles r []

-- the session of a number
abbrev pub session_at : List Session → ℕ → Session
session_at sessions s = slice_index_or sessions s (record { role = 0; starts = [] })

-- each number is larger than all before it
abbrev pub ascending : List ℕ → Bool
ascending [] = true
ascending (v ∷ vs) = list_all (ltb v) vs && ascending vs

-- a variable of the role, with a declared atom of its kind
abbrev pub binding_fits : List ℕ → List Step → Binding → Bool
binding_fits atoms steps b = among b.variable (role_variables steps) && (among b.atom atoms && of_kind b.variable b.atom)

-- what each part owes

-- from low to high
abbrev pub within : ℕ → ℕ → ℕ → Bool
within low high n = nat_le low n && nat_le n high

-- an atom, with a label of 1 to 12 bytes
abbrev pub declaration_fits : Declaration → Bool
declaration_fits d = is_atom d.atom && (list_all is_label_byte d.label && within 1 12 (length d.label))

-- a message, of declared atoms
abbrev pub message_fits : List ℕ → List ℕ → Bool
message_fits atoms m = is_form m && (closed m && uses_declared atoms m)

-- a mark in its range, and a form of declared atoms
abbrev pub step_fits : List ℕ → Step → Bool
step_fits atoms s = mark_fits s && (is_form (form_in s) && uses_declared atoms (form_in s))

-- 1 to 12 steps with at most 8 variables between them
abbrev pub role_fits : List ℕ → List Step → Bool
role_fits atoms steps = within 1 12 (length steps) && (list_all (step_fits atoms) steps && nat_le (length (role_variables steps)) 8)

-- starting values for some of a role's variables, in ascending order, with which the role can be followed
abbrev pub starts_fit : List ℕ → List Step → List Binding → Bool
starts_fit atoms steps starts = nat_le (length starts) 8 && (ascending (started starts) && (list_all (binding_fits atoms steps) starts && (fillable steps starts && few_new steps starts)))

-- a role that there is, and such values
abbrev pub session_fits : List ℕ → List (List Step) → Session → Bool
session_fits atoms roles s = nat_lt s.role (length roles) && starts_fit atoms (role_at roles s.role) s.starts

-- a secret message of declared atoms; a session that there is, and a variable of its role; or a mark in its range
abbrev pub claim_fits : List ℕ → List (List Step) → List Session → Claim → Bool
claim_fits atoms roles sessions (secret m) = message_fits atoms m
claim_fits atoms roles sessions (session_secret s v) = nat_lt s (length sessions) && among v (role_variables (role_at roles (session_at sessions s).role))
claim_fits atoms roles sessions (matched mark) = nat_lt mark 16
claim_fits atoms roles sessions (matched_once mark) = nat_lt mark 16

-- an exchange that keeps every rule
pub record Fit (x : Exchange) : Type 0 where
  pub declarations : list_all declaration_fits x.atoms ≡ true
  pub declared_once : once (atoms_of x) ≡ true
  pub messages : list_all (message_fits (atoms_of x)) x.opening ≡ true
  pub few_messages : length x.opening ≤ 32
  pub roles : list_all (role_fits (atoms_of x)) x.roles ≡ true
  pub some_role : 1 ≤ length x.roles
  pub few_roles : length x.roles ≤ 4
  pub sessions : list_all (session_fits (atoms_of x) x.roles) x.sessions ≡ true
  pub some_session : 1 ≤ length x.sessions
  pub few_sessions : length x.sessions ≤ 8
  pub claims : list_all (claim_fits (atoms_of x) x.roles x.sessions) x.claims ≡ true
  pub some_claim : 1 ≤ length x.claims
  pub few_claims : length x.claims ≤ 8

-- the same as one test
abbrev pub is_fit : Exchange → Bool
is_fit x =
    list_all declaration_fits x.atoms && (once (atoms_of x)
    && (list_all (message_fits (atoms_of x)) x.opening && (nat_le (length x.opening) 32
    && (list_all (role_fits (atoms_of x)) x.roles && (within 1 4 (length x.roles)
    && (list_all (session_fits (atoms_of x) x.roles) x.sessions && (within 1 8 (length x.sessions)
    && (list_all (claim_fits (atoms_of x) x.roles x.sessions) x.claims && within 1 8 (length x.claims)))))))))
