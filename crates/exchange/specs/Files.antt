-- The file of an exchange: a row of fields.
use Rattle.std.specs.Prelude.{ℕ, ◌/◌, ◌%◌, List, [], ◌∷◌, ◌++◌, length}
use Rattle.std.specs.List.{flat_map}
use Rattle.exchange.specs.Exchanges.{Declaration, Step, sends, receives, begins, ends, Binding, Session, Claim, secret, session_secret, matched, matched_once, Exchange}

-- a field: its tag, the length of its value in two bytes with the high one first, and the value
abbrev pub field : ℕ → List ℕ → List ℕ
field tag value = tag ∷ (length value / 256) ∷ (length value % 256) ∷ value

-- 01: an atom and its label
abbrev pub declaration_field : Declaration → List ℕ
declaration_field d = field 0x01 (d.atom ∷ d.label)

-- 02: an opening message
abbrev pub opening_field : List ℕ → List ℕ
opening_field m = field 0x02 m

-- the step's kind, the mark of a begin or end, and the form
abbrev pub step_value : Step → List ℕ
step_value (sends f) = 1 ∷ f
step_value (receives f) = 2 ∷ f
step_value (begins mark f) = 3 ∷ mark ∷ f
step_value (ends mark f) = 4 ∷ mark ∷ f

-- 04: a step
abbrev pub step_field : Step → List ℕ
step_field s = field 0x04 (step_value s)

-- 03, which begins a role, and then its steps
abbrev pub role_fields : List Step → List ℕ
role_fields steps = field 0x03 [] ++ flat_map step_field steps

abbrev pub binding_bytes : Binding → List ℕ
binding_bytes b = b.variable ∷ b.atom ∷ []

-- 05: the session's role, and then pairs of a variable and its atom
abbrev pub session_field : Session → List ℕ
session_field s = field 0x05 (s.role ∷ flat_map binding_bytes s.starts)

-- the claim's kind, and then its message, its session and variable, or its mark
abbrev pub claim_value : Claim → List ℕ
claim_value (secret m) = 1 ∷ m
claim_value (session_secret s v) = 2 ∷ s ∷ v ∷ []
claim_value (matched mark) = 3 ∷ mark ∷ []
claim_value (matched_once mark) = 4 ∷ mark ∷ []

-- 06: a claim
abbrev pub claim_field : Claim → List ℕ
claim_field c = field 0x06 (claim_value c)

-- all fields of an exchange in their order, without the end field
abbrev pub body_bytes : Exchange → List ℕ
body_bytes x = flat_map declaration_field x.atoms ++ (flat_map opening_field x.opening ++ (flat_map role_fields x.roles ++ (flat_map session_field x.sessions ++ flat_map claim_field x.claims)))

-- the one file of an exchange: its fields and then 7F, the end
abbrev pub file_bytes : Exchange → List ℕ
file_bytes x = body_bytes x ++ field 0x7F []
