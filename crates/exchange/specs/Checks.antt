-- How a file is read, check by check, in the order of the checks.
use Rattle.std.specs.Prelude.{ℕ, zero, suc, ◌+◌, ◌-◌, ◌*◌, ◌%◌, Bool, true, false, not, ◌&&◌, ◌||◌, List, [], ◌∷◌, ◌++◌, length, take, drop, Some, None, Ok, Err, Option, Result, ◌==◌, nat_le, nat_lt}
use Rattle.std.specs.List.{list_all}
use Rattle.std.specs.Option.{ok_or}
use Rattle.message.specs.declared.stop.Stop.{Stop}
use Rattle.message.specs.declared.stop.Stop.TheVariants.{FileTooLong, Incomplete, MisplacedTag, WrongLength, BadLabel, NotOneForm, VariableInMessage, UndeclaredAtom, NotAscending, LimitPassed, PartMissing, OutOfRange, UnboundVariable, WrongKind, TooManyNewVariables}
use Rattle.message.specs.Bytes.{is_atom}
use Rattle.message.specs.Filling.{of_kind}
use Rattle.message.specs.Trees.{is_form, closed}
use Rattle.message.specs.Variables.{among}
use Rattle.exchange.specs.declared.tag.Tag.{Tag}
use Rattle.exchange.specs.declared.tag.Tag.TheVariants.{AtomTag, OpeningTag, RoleTag, StepTag, SessionTag, ClaimTag, EndTag}
use Rattle.exchange.specs.Exchanges.{Declaration, Step, sends, receives, begins, ends, Binding, Session, Claim, secret, session_secret, matched, matched_once, Exchange}
use Rattle.exchange.specs.Rules.{atoms_of, is_label_byte, uses_declared, form_in, role_variables, fillable, few_new, role_at, session_at, within}

-- go on where the test holds, else refuse
abbrev pub unless : {A : Type 0} → Bool → Stop → Result A Stop → Result A Stop
unless test stop next = elim test [ true ↦ next | false ↦ Err stop ]

-- go on with what came, or hand the refusal on
abbrev pub then : {A B : Type 0} → Result A Stop → (A → Result B Stop) → Result B Stop
then (Ok x) next = next x
then (Err stop) next = Err stop

-- tags

abbrev pub tag_of : ℕ → Option Tag
tag_of b =
    elim (b == 0x01) [
      | true ↦ Some AtomTag
      | false ↦
          elim (b == 0x02) [
            | true ↦ Some OpeningTag
            | false ↦
                elim (b == 0x03) [
                  | true ↦ Some RoleTag
                  | false ↦
                      elim (b == 0x04) [
                        | true ↦ Some StepTag
                        | false ↦
                            elim (b == 0x05) [
                              | true ↦ Some SessionTag
                              | false ↦
                                  elim (b == 0x06) [
                                    | true ↦ Some ClaimTag
                                    | false ↦
                                        elim (b == 0x7F) [ true ↦ Some EndTag | false ↦ None ]
                                  ]
                            ]
                      ]
                ]
          ]
    ]

abbrev pub tag_byte : Tag → ℕ
tag_byte AtomTag = 0x01
tag_byte OpeningTag = 0x02
tag_byte RoleTag = 0x03
tag_byte StepTag = 0x04
tag_byte SessionTag = 0x05
tag_byte ClaimTag = 0x06
tag_byte EndTag = 0x7F

-- after the end nothing may follow; else no tag below the last one, but a new role after a step
abbrev pub may_follow_tag : Tag → Tag → Bool
may_follow_tag last tag = not (tag_byte last == 0x7F) && (nat_le (tag_byte last) (tag_byte tag) || (tag_byte last == 0x04 && tag_byte tag == 0x03))

abbrev pub may_follow : Option Tag → Tag → Bool
may_follow None tag = true
may_follow (Some last) tag = may_follow_tag last tag

-- the steps of the role that was begun last
abbrev pub last_role : Exchange → List Step
last_role x = role_at x.roles (length x.roles - 1)

-- what the part that begins with this tag needs is there: a role's steps before the next role, a role before a step,
-- roles with steps before sessions, a session before claims, a claim before the end
abbrev pub is_due : Exchange → Tag → Bool
is_due x AtomTag = true
is_due x OpeningTag = true
is_due x RoleTag = nat_le (length x.roles) 0 || nat_le 1 (length (last_role x))
is_due x StepTag = nat_le 1 (length x.roles)
is_due x SessionTag = nat_le 1 (length x.roles) && nat_le 1 (length (last_role x))
is_due x ClaimTag = nat_le 1 (length x.sessions)
is_due x EndTag = nat_le 1 (length x.claims)

-- one more of the kind passes no limit
abbrev pub has_room : Exchange → Tag → Bool
has_room x AtomTag = true
has_room x OpeningTag = nat_lt (length x.opening) 32
has_room x RoleTag = nat_lt (length x.roles) 4
has_room x StepTag = nat_lt (length (last_role x)) 12
has_room x SessionTag = nat_lt (length x.sessions) 8
has_room x ClaimTag = nat_lt (length x.claims) 8
has_room x EndTag = true

-- the lengths that a value may have
abbrev pub length_fits : Tag → ℕ → Bool
length_fits AtomTag n = within 2 13 n
length_fits OpeningTag n = within 1 24 n
length_fits RoleTag n = n == 0
length_fits StepTag n = within 2 26 n
length_fits SessionTag n = within 1 17 n && n % 2 == 1
length_fits ClaimTag n = within 2 25 n
length_fits EndTag n = n == 0

-- fields

-- what a field says, its forms and pairs still as bytes
pub data Item : Type 0 where
  declares : ℕ → List ℕ → Item
  opens : List ℕ → Item
  role : Item
  does : Step → Item
  runs : ℕ → List ℕ → Item
  claims : Claim → Item
  finish : Item

-- the mark at the front is in its range, and the form follows
abbrev pub marked_form : (ℕ → List ℕ → Step) → List ℕ → Result Item Stop
marked_form make [] = Err OutOfRange
marked_form make (mark ∷ form) = unless (nat_lt mark 16) OutOfRange (Ok (does (make mark form)))

-- a step's kind, the mark of a begin or end, and the form
abbrev pub step_item : ℕ → List ℕ → Result Item Stop
step_item kind rest =
    elim (kind == 1) [
      | true ↦ Ok (does (sends rest))
      | false ↦
          elim (kind == 2) [
            | true ↦ Ok (does (receives rest))
            | false ↦
                elim (kind == 3) [
                  | true ↦ marked_form begins rest
                  | false ↦
                      elim (kind == 4) [ true ↦ marked_form ends rest | false ↦ Err OutOfRange ]
                ]
          ]
    ]

-- a session and a variable, and no more
abbrev pub secret_item : List ℕ → Result Item Stop
secret_item [] = Err WrongLength
secret_item (s ∷ []) = Err WrongLength
secret_item (s ∷ (v ∷ [])) = Ok (claims (session_secret s v))
secret_item (s ∷ (v ∷ (b ∷ rest))) = Err WrongLength

-- a mark in its range, and no more
abbrev pub mark_item : (ℕ → Claim) → List ℕ → Result Item Stop
mark_item make [] = Err WrongLength
mark_item make (mark ∷ []) = unless (nat_lt mark 16) OutOfRange (Ok (claims (make mark)))
mark_item make (mark ∷ (b ∷ rest)) = Err WrongLength

-- a claim's kind, its exact length, and its parts
abbrev pub claim_item : ℕ → List ℕ → Result Item Stop
claim_item kind rest =
    elim (kind == 1) [
      | true ↦ Ok (claims (secret rest))
      | false ↦
          elim (kind == 2) [
            | true ↦ secret_item rest
            | false ↦
                elim (kind == 3) [
                  | true ↦ mark_item matched rest
                  | false ↦
                      elim (kind == 4) [ true ↦ mark_item matched_once rest | false ↦ Err OutOfRange ]
                ]
          ]
    ]

-- what a value whose length fits says, as far as it can be told from the value alone; only the last two tags have an
-- empty value that fits
abbrev pub item_in : Tag → ℕ → List ℕ → Result Item Stop
item_in AtomTag b rest = Ok (declares b rest)
item_in OpeningTag b rest = Ok (opens (b ∷ rest))
item_in RoleTag b rest = Ok role
item_in StepTag b rest = step_item b rest
item_in SessionTag b rest = Ok (runs b rest)
item_in ClaimTag b rest = claim_item b rest
item_in EndTag b rest = Ok finish

abbrev pub empty_item : Tag → Result Item Stop
empty_item AtomTag = Err WrongLength
empty_item OpeningTag = Err WrongLength
empty_item RoleTag = Ok role
empty_item StepTag = Err WrongLength
empty_item SessionTag = Err WrongLength
empty_item ClaimTag = Err WrongLength
empty_item EndTag = Ok finish

abbrev pub value_item : Tag → List ℕ → Result Item Stop
value_item tag [] = empty_item tag
value_item tag (b ∷ rest) = item_in tag b rest

abbrev pub item_of : Tag → List ℕ → Result Item Stop
item_of tag value = unless (length_fits tag (length value)) WrongLength (value_item tag value)

-- parts

-- the bytes are a form, of declared atoms
abbrev pub form_of : List ℕ → List ℕ → Result (List ℕ) Stop
form_of atoms bs = unless (is_form bs) NotOneForm (unless (uses_declared atoms bs) UndeclaredAtom (Ok bs))

-- the bytes are a message, of declared atoms
abbrev pub message_of : List ℕ → List ℕ → Result (List ℕ) Stop
message_of atoms bs = unless (is_form bs) NotOneForm (unless (closed bs) VariableInMessage (unless (uses_declared atoms bs) UndeclaredAtom (Ok bs)))

-- a variable may follow these: it is larger than the last
abbrev pub is_next : List Binding → ℕ → Bool
is_next [] v = true
is_next (b ∷ []) v = nat_lt b.variable v
is_next (b ∷ (d ∷ rest)) v = is_next (d ∷ rest) v

-- the pair may follow these
abbrev pub pair_fits : List ℕ → List Step → List Binding → ℕ → ℕ → Result Binding Stop
pair_fits atoms steps got v a =
    unless (is_next got v) NotAscending (
    unless (among v (role_variables steps)) OutOfRange (
    unless (among a atoms) UndeclaredAtom (
    unless (of_kind v a) WrongKind (Ok (record { variable = v; atom = a })))))

-- pairs of a variable and its atom, after those that were read; the length leaves no byte alone
unfoldable pub bindings_of : List ℕ → List Step → List Binding → List ℕ → Result (List Binding) Stop
bindings_of atoms steps got [] = Ok got
bindings_of atoms steps got (v ∷ []) = Ok got
bindings_of atoms steps got (v ∷ (a ∷ rest)) = then (pair_fits atoms steps got v a) (λ b. bindings_of atoms steps (got ++ b ∷ []) rest)

-- the values with which the role can be followed
abbrev pub starts_of : List ℕ → List Step → List ℕ → Result (List Binding) Stop
starts_of atoms steps bs =
    then (bindings_of atoms steps [] bs) (λ starts.
    unless (fillable steps starts) UnboundVariable (
    unless (few_new steps starts) TooManyNewVariables (Ok starts)))

-- the exchange with one more part

abbrev pub with_declaration : Exchange → Declaration → Exchange
with_declaration x d = record { atoms = x.atoms ++ d ∷ []; opening = x.opening; roles = x.roles; sessions = x.sessions; claims = x.claims }

abbrev pub with_opening : Exchange → List ℕ → Exchange
with_opening x m = record { atoms = x.atoms; opening = x.opening ++ m ∷ []; roles = x.roles; sessions = x.sessions; claims = x.claims }

abbrev pub with_roles : Exchange → List (List Step) → Exchange
with_roles x roles = record { atoms = x.atoms; opening = x.opening; roles = roles; sessions = x.sessions; claims = x.claims }

abbrev pub with_role : Exchange → Exchange
with_role x = with_roles x (x.roles ++ [] ∷ [])

-- the last role has one more step
abbrev pub with_step : Exchange → Step → Exchange
with_step x s = with_roles x (take (length x.roles - 1) x.roles ++ (last_role x ++ s ∷ []) ∷ [])

abbrev pub with_session : Exchange → Session → Exchange
with_session x s = record { atoms = x.atoms; opening = x.opening; roles = x.roles; sessions = x.sessions ++ s ∷ []; claims = x.claims }

abbrev pub with_claim : Exchange → Claim → Exchange
with_claim x c = record { atoms = x.atoms; opening = x.opening; roles = x.roles; sessions = x.sessions; claims = x.claims ++ c ∷ [] }

abbrev pub add_declaration : Exchange → ℕ → List ℕ → Result Exchange Stop
add_declaration x a label =
    unless (not (among a (atoms_of x))) NotAscending (
    unless (is_atom a) OutOfRange (
    unless (list_all is_label_byte label) BadLabel (Ok (with_declaration x (record { atom = a; label = label })))))

abbrev pub add_step : Exchange → Step → Result Exchange Stop
add_step x s =
    then (form_of (atoms_of x) (form_in s)) (λ _.
    unless (nat_le (length (role_variables (last_role x ++ s ∷ []))) 8) LimitPassed (Ok (with_step x s)))

abbrev pub add_session : Exchange → ℕ → List ℕ → Result Exchange Stop
add_session x r bs =
    unless (nat_lt r (length x.roles)) OutOfRange (
    then (starts_of (atoms_of x) (role_at x.roles r) bs) (λ starts. Ok (with_session x (record { role = r; starts = starts }))))

abbrev pub add_claim : Exchange → Claim → Result Exchange Stop
add_claim x (secret m) = then (message_of (atoms_of x) m) (λ _. Ok (with_claim x (secret m)))
add_claim x (session_secret s v) =
    unless (nat_lt s (length x.sessions)) OutOfRange (
    unless (among v (role_variables (role_at x.roles (session_at x.sessions s).role))) OutOfRange (Ok (with_claim x (session_secret s v))))
add_claim x (matched mark) = Ok (with_claim x (matched mark))
add_claim x (matched_once mark) = Ok (with_claim x (matched_once mark))

-- the exchange with what a field says
abbrev pub adds : Exchange → Item → Result Exchange Stop
adds x (declares a label) = add_declaration x a label
adds x (opens m) = then (message_of (atoms_of x) m) (λ _. Ok (with_opening x m))
adds x role = Ok (with_role x)
adds x (does s) = add_step x s
adds x (runs r bs) = add_session x r bs
adds x (claims c) = add_claim x c
adds x finish = Ok x

-- the file

-- a whole field after those that were read
abbrev pub takes : Option Tag → Exchange → Tag → List ℕ → Result Exchange Stop
takes last x tag value =
    unless (may_follow last tag) MisplacedTag (
    unless (is_due x tag) PartMissing (
    unless (has_room x tag) LimitPassed (
    then (item_of tag value) (adds x))))

-- the tag and the value of the field at the front; nothing where it is not whole
abbrev pub cut_rest : ℕ → ℕ → List ℕ → Option (ℕ × List ℕ)
cut_rest tag n rest = elim (nat_le n (length rest)) [ true ↦ Some (tag, take n rest) | false ↦ None ]

abbrev pub cut : List ℕ → Option (ℕ × List ℕ)
cut [] = None
cut (t ∷ []) = None
cut (t ∷ (h ∷ [])) = None
cut (t ∷ (h ∷ (l ∷ rest))) = cut_rest t (h * 256 + l) rest

-- the field at the front: its tag, the exchange with it, and how many bytes it takes
pub record Turn : Type 0 where
  pub tag : Tag
  pub exchange : Exchange
  pub size : ℕ

abbrev pub turn_by : Option Tag → Exchange → List ℕ → Tag → Result Turn Stop
turn_by last x value tag = then (takes last x tag value) (λ y. Ok (record { tag = tag; exchange = y; size = 3 + length value }))

abbrev pub turn : Option Tag → Exchange → List ℕ → Result Turn Stop
turn last x bytes = then (ok_or (cut bytes) Incomplete) (λ f. then (ok_or (tag_of f.0) MisplacedTag) (turn_by last x f.1))

-- an exchange, or a stop and the number of bytes before the field that it was found in
pub data Outcome : Type 0 where
  accepted : Exchange → Outcome
  refused : Stop → ℕ → Outcome

-- the last field was the end
abbrev pub is_end : Option Tag → Bool
is_end None = false
is_end (Some tag) = tag_byte tag == 0x7F

abbrev pub onward : Result Turn Stop → ℕ → (Turn → Outcome) → Outcome
onward (Ok t) at next = next t
onward (Err stop) at next = refused stop at

-- reading on at a place, at most as many fields as the number says: accepted where nothing follows the end field
unfoldable pub reading : ℕ → List ℕ → ℕ → Option Tag → Exchange → Outcome
reading zero file at last x = refused Incomplete at
reading (suc n) file at last x =
    elim (is_end last && nat_le (length file) at) [
      | true ↦ accepted x
      | false ↦
          onward (turn last x (drop at file)) at (λ t. reading n file (at + t.size) (Some t.tag) t.exchange)
    ]

-- nothing is read yet
abbrev pub blank : Exchange
blank = record { atoms = []; opening = []; roles = []; sessions = []; claims = [] }

-- what a file loads as: a field has at least three bytes, so the file's length is enough for its fields
abbrev pub loads : List ℕ → Outcome
loads file = elim (nat_le (length file) 8192) [ true ↦ reading (suc (length file)) file 0 None blank | false ↦ refused FileTooLong 0 ]
