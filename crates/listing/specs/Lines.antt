-- The lines of a listing.
use Rattle.std.specs.Prelude.{ℕ, true, false, List, [], ◌++◌, codes, decimal, ◌==◌}
use Rattle.message.specs.declared.kind.Symbol.{Symbol}
use Rattle.message.specs.declared.kind.Symbol.TheVariants.{Atom, Variable, Join, Lock, Unused}
use Rattle.message.specs.Bytes.{symbol}
use Rattle.exchange.specs.Exchanges.{Declaration, Step, sends, receives, begins, ends, Binding, Session, Claim, secret, session_secret, matched, matched_once}
use Rattle.listing.specs.Texts.{byte_text, form_text}
use Rattle.listing.specs.Words.{newline, kind_word, hex, numbered}

-- the kind of an atom
abbrev pub kind_text : Symbol → List ℕ
kind_text (Atom kind) = kind_word kind
kind_text (Variable kind) = []
kind_text Join = []
kind_text Lock = []
kind_text Unused = []

-- as in: atom ks shared key 50
abbrev pub declaration_line : Declaration → List ℕ
declaration_line d = codes "atom " ++ (d.label ++ (codes " " ++ (kind_text (symbol d.atom) ++ (codes " " ++ (hex d.atom ++ newline)))))

-- as in: opening {blk}ks
abbrev pub opening_line : List Declaration → List ℕ → List ℕ
opening_line ds m = codes "opening " ++ (form_text ds m ++ newline)

-- as in: send {blk}ks, or: begin 1 blk
abbrev pub step_text : List Declaration → Step → List ℕ
step_text ds (sends f) = codes "send " ++ form_text ds f
step_text ds (receives f) = codes "receive " ++ form_text ds f
step_text ds (begins mark f) = codes "begin " ++ (decimal mark ++ (codes " " ++ form_text ds f))
step_text ds (ends mark f) = codes "end " ++ (decimal mark ++ (codes " " ++ form_text ds f))

-- the number of the line in the role, and the step
abbrev pub step_line : List Declaration → ℕ → Step → List ℕ
step_line ds n s = decimal n ++ (codes " " ++ (step_text ds s ++ newline))

-- as in: role 0, and then the role's steps
abbrev pub role_lines : List Declaration → ℕ → List Step → List ℕ
role_lines ds n steps = codes "role " ++ (decimal n ++ (newline ++ numbered (step_line ds) 0 steps))

-- before the first starting value, and before each other
abbrev pub start_word : ℕ → List ℕ
start_word n = elim (n == 0) [ true ↦ codes " with " | false ↦ codes ", " ]

-- as in: with ?data0 = blk
abbrev pub start_text : List Declaration → ℕ → Binding → List ℕ
start_text ds n b = start_word n ++ (byte_text ds b.variable ++ (codes " = " ++ byte_text ds b.atom))

-- as in: session 1 plays role 1 with ?data0 = blk, ?name1 = car
abbrev pub session_line : List Declaration → ℕ → Session → List ℕ
session_line ds n s = codes "session " ++ (decimal n ++ (codes " plays role " ++ (decimal s.role ++ (numbered (start_text ds) 0 s.starts ++ newline))))

abbrev pub claim_text : List Declaration → Claim → List ℕ
claim_text ds (secret m) = form_text ds m ++ codes " stays secret"
claim_text ds (session_secret s v) = byte_text ds v ++ (codes " of session " ++ (decimal s ++ codes " stays secret"))
claim_text ds (matched mark) = codes "each end with mark " ++ (decimal mark ++ codes " has a begin")
claim_text ds (matched_once mark) = codes "no more ends with mark " ++ (decimal mark ++ codes " than begins")

-- as in: claim 0: {blk}ks stays secret
abbrev pub claim_line : List Declaration → ℕ → Claim → List ℕ
claim_line ds n c = codes "claim " ++ (decimal n ++ (codes ": " ++ (claim_text ds c ++ newline)))
