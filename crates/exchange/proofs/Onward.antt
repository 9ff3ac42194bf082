-- Reading a row of fields that all pass. Assumes nothing.
use Rattle.std.proofs.Common.{◌≡◌, ℕ, zero, suc, ◌+◌, ◌<◌, ◌≤◌, true, false, ◌&&◌, eqb, leb, List, [], ◌∷◌, ◌++◌, length, take, drop, Some, None, Ok, Option, sym, refl, ap, ◌∙◌, subst, append_assoc, append-nil, div-add-mod', arith}
use Rattle.std.specs.Option.{ok_or}
use Rattle.std.specs.List.{flat_map}
use Rattle.std.proofs.lemmas.List.{length-append, length-drop, drop-drop, drop_at, take_at}
use Rattle.std.proofs.lemmas.Bool.{and_from, and_right, or_left, not_from_false, le-leb, lt-leb, ne_eqb}
use Rattle.message.specs.declared.stop.Stop.TheVariants.{Incomplete, MisplacedTag}
use Rattle.exchange.specs.declared.tag.Tag.{Tag}
use Rattle.exchange.specs.declared.tag.Tag.TheVariants.{AtomTag, OpeningTag, RoleTag, StepTag, SessionTag, ClaimTag, EndTag}
use Rattle.exchange.specs.Exchanges.{Exchange}
use Rattle.exchange.specs.Files.{field}
use Rattle.exchange.specs.Checks.{then, tag_of, tag_byte, may_follow, takes, cut, cut_rest, turn_by, turn, Outcome, accepted, is_end, onward, reading}

-- with these bytes left, and this field and exchange before them, reading on accepts z
abbrev pub Ends : List ℕ → Option Tag → Exchange → Exchange → Type 0
Ends rest last x z = (file : List ℕ) (n at : ℕ) → drop at file ≡ rest → length rest < n → reading n file at last x ≡ accepted z

-- the byte of the last field's tag; 0 before the first field
abbrev pub last_byte : Option Tag → ℕ
last_byte None = 0
last_byte (Some tag) = tag_byte tag

-- the same, whichever field up to this tag was last
abbrev pub After : ℕ → List ℕ → Exchange → Exchange → Type 0
After top rest x z = (last : Option Tag) → last_byte last ≤ top → Ends rest last x z

-- a tag may follow those that are no larger
pub follows : (last : Option Tag) (tag : Tag) → last_byte last ≤ tag_byte tag → last_byte last ≤ 6 → may_follow last tag ≡ true
follows None tag h k = refl
follows (Some t) tag h k =
    and_from _ _
    (not_from_false (eqb (tag_byte t) 0x7F) (ne_eqb (tag_byte t) 0x7F (λ e. omega arith)))
    (or_left (leb (tag_byte t) (tag_byte tag)) (eqb (tag_byte t) 0x04 && eqb (tag_byte tag) 0x03) (le-leb (tag_byte t) (tag_byte tag) h))

-- a role may follow a step too
pub role_follows : (last : Option Tag) → last_byte last ≤ 4 → may_follow last RoleTag ≡ true
role_follows None h = refl
role_follows (Some AtomTag) h = refl
role_follows (Some OpeningTag) h = refl
role_follows (Some RoleTag) h = refl
role_follows (Some StepTag) h = refl
role_follows (Some SessionTag) h = absurd (omega arith)
role_follows (Some ClaimTag) h = absurd (omega arith)
role_follows (Some EndTag) h = absurd (omega arith)

-- the byte of a tag is read as that tag
tag_back : (tag : Tag) → tag_of (tag_byte tag) ≡ Some tag
tag_back AtomTag = refl
tag_back OpeningTag = refl
tag_back RoleTag = refl
tag_back StepTag = refl
tag_back SessionTag = refl
tag_back ClaimTag = refl
tag_back EndTag = refl

-- a field at the front is cut into its tag and its value
cut_back : (tag : ℕ) (value rest : List ℕ) → cut (field tag value ++ rest) ≡ Some (tag, value)
cut_back tag value rest =
    let size = div-add-mod' (length value) 256 in
    let short : leb (length value) (length (value ++ rest)) ≡ true = le-leb (length value) (length (value ++ rest)) (omega (arith, length-append value rest)) in
    ap (λ n. cut_rest tag n (value ++ rest)) size
    ∙ ap (λ t. elim t as (λ _. Option (ℕ × List ℕ)) [ true ↦ Some (tag, take (length value) (value ++ rest)) | false ↦ None ]) short
    ∙ ap (λ l. Some (tag, l)) (take_at value rest (length value) refl)

-- a field at the front whose value is taken
turn_back : (last : Option Tag) (x y : Exchange) (tag : Tag) (value rest : List ℕ) → takes last x tag value ≡ Ok y
    → turn last x (field (tag_byte tag) value ++ rest) ≡ Ok (record { tag = tag; exchange = y; size = 3 + length value })
turn_back last x y tag value rest e =
    ap (λ o. then (ok_or o Incomplete) (λ f. then (ok_or (tag_of f.0) MisplacedTag) (turn_by last x f.1))) (cut_back (tag_byte tag) value rest)
    ∙ ap (λ o. then (ok_or o MisplacedTag) (turn_by last x value)) (tag_back tag)
    ∙ ap (λ r. then r (λ y. Ok (record { tag = tag; exchange = y; size = 3 + length value }))) e

-- a field that is taken, and then the rest
pub ends_field : (last : Option Tag) (x y z : Exchange) (tag : Tag) (value rest : List ℕ) → takes last x tag value ≡ Ok y
    → Ends rest (Some tag) y z → Ends (field (tag_byte tag) value ++ rest) last x z
unfolding reading
ends_field last x y z tag value rest e next file zero at left h = absurd (omega arith)
ends_field last x y z tag value rest e next file (suc n) at left h =
    let size = length-append value rest in
    let more : leb (length file) at ≡ false = lt-leb (length file) at (omega (arith, ap length left, length-drop at file)) in
    let on : drop (at + (3 + length value)) file ≡ rest = sym (drop-drop (3 + length value) at file) ∙ ap (drop (3 + length value)) left ∙ drop_at (field (tag_byte tag) value) rest (3 + length value) (omega arith) in
    ap (λ t. elim t as (λ _. Outcome) [ true ↦ accepted x | false ↦ onward (turn last x (drop at file)) at (λ t. reading n file (at + t.size) (Some t.tag) t.exchange) ]) (and_right (is_end last) (leb (length file) at) more)
    ∙ ap (λ l. onward (turn last x l) at (λ t. reading n file (at + t.size) (Some t.tag) t.exchange)) left
    ∙ ap (λ r. onward r at (λ t. reading n file (at + t.size) (Some t.tag) t.exchange)) (turn_back last x y tag value rest e)
    ∙ next file n (at + (3 + length value)) on (omega arith)

-- after the end field nothing is left
pub ends_all : (x : Exchange) → Ends [] (Some EndTag) x x
unfolding reading
ends_all x file zero at left h = absurd (omega arith)
ends_all x file (suc n) at left h =
    let done : leb (length file) at ≡ true = le-leb (length file) at (omega (arith, ap length left, length-drop at file)) in
    ap (λ t. elim t as (λ _. Outcome) [ true ↦ accepted x | false ↦ onward (turn (Some EndTag) x (drop at file)) at (λ t. reading n file (at + t.size) (Some t.tag) t.exchange) ]) done

-- the fields of a list's elements one after the other, where each element turns the state of those before it into its own
pub after_each : {A : Type 0} (f : A → List ℕ) (top : ℕ) (state : List A → Exchange) (all : List A) (z : Exchange)
    → ((pre : List A) (a : A) (post : List A) → pre ++ a ∷ post ≡ all → (rest : List ℕ) → After top rest (state (pre ++ a ∷ [])) z → After top (f a ++ rest) (state pre) z)
    → (pre post : List A) → pre ++ post ≡ all → (rest : List ℕ) → After top rest (state all) z → After top (flat_map f post ++ rest) (state pre) z
after_each f top state all z one pre [] e rest next = subst (λ l. After top rest (state l) z) (sym e ∙ append-nil pre) next
after_each f top state all z one pre (a ∷ post) e rest next =
    subst (λ l. After top l (state pre) z) (sym (append_assoc (f a) (flat_map f post) rest))
    (one pre a post e (flat_map f post ++ rest) (after_each f top state all z one (pre ++ a ∷ []) post (append_assoc pre (a ∷ []) post ∙ e) rest next))
