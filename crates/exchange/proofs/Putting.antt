-- Writes to a buffer, one after another.
use Rattle.std.proofs.Common.{◌≡◌, ℕ, ◌+◌, ◌*◌, ◌<◌, ◌≤◌, List, [], ◌∷◌, ◌++◌, map, length, get_or, take, drop, vec_items, sym, refl, ap, ◌∙◌, subst, append_assoc, arith}
use Rattle.std.specs.List.{flat_map}
use Rattle.std.proofs.lemmas.List.Folds.{flat_map-map}
use Rattle.std.proofs.lemmas.List.{length-append, length-take-le, take_at, take_more, drop_at, drop-drop}
use Rattle.exchange.specs.declared.exchange.writing.Pen.{Pen}
use Rattle.exchange.specs.declared.exchange.Exchange as code
use Rattle.exchange.specs.Atoms.{declaration_of}
use Rattle.exchange.specs.Parts.{claim_of}
use Rattle.exchange.specs.Roles.{role_of}
use Rattle.exchange.specs.Views.{exchange_of}
use Rattle.message.specs.Messages.{message_text}
use Rattle.exchange.specs.Exchanges.{Binding, Exchange}
use Rattle.exchange.specs.Files.{field, declaration_field, opening_field, role_fields, binding_bytes, session_field, claim_field, file_bytes}
use Rattle.exchange.specs.Sessions.{session_of}
use Rattle.exchange.proofs.Each.{joined_push}
use Rattle.exchange.specs.Writing.{Puts, field_start}

-- the same bytes in other words
pub puts_same : {old new : Pen} (bs cs : List ℕ) → bs ≡ cs → Puts old bs new → Puts old cs new
puts_same {old} {new} bs cs e p = subst (λ l. Puts old l new) e p

-- bytes, and then more bytes after them
pub puts_both : {old mid new : Pen} (bs cs : List ℕ) → old.at ≤ length old.out.now → Puts old bs mid → Puts mid cs new → Puts old (bs ++ cs) new
puts_both {old} {mid} {new} bs cs h p q =
    record {
      size = omega (arith, p.size, q.size, length-append bs cs);
      bytes =
          q.bytes
          ∙ (ap (λ l. l ++ (cs ++ drop (mid.at + length cs) mid.out.now)) front
          ∙ (ap (λ l. (take old.at before ++ bs) ++ (cs ++ l)) rest
          ∙ (append_assoc (take old.at before) bs (cs ++ drop (old.at + length (bs ++ cs)) before)
          ∙ ap (λ l. take old.at before ++ l) (sym (append_assoc bs cs (drop (old.at + length (bs ++ cs)) before))))));
      buffer = q.buffer ∙ p.buffer;
      long = q.long ∙ p.long;
    }
  where
    before : List ℕ
    before = old.out.now

    long : length (take old.at before ++ bs) ≡ mid.at
    long = omega (arith, length-append (take old.at before) bs, length-take-le old.at before h, p.size)

    split : mid.out.now ≡ (take old.at before ++ bs) ++ drop mid.at before
    split = p.bytes ∙ (sym (append_assoc (take old.at before) bs (drop (old.at + length bs) before)) ∙ ap (λ n. (take old.at before ++ bs) ++ drop n before) (sym p.size))

    front : take mid.at mid.out.now ≡ take old.at before ++ bs
    front = ap (take mid.at) split ∙ take_at (take old.at before ++ bs) (drop mid.at before) mid.at long

    rest : drop (mid.at + length cs) mid.out.now ≡ drop (old.at + length (bs ++ cs)) before
    rest =
        sym (drop-drop (length cs) mid.at mid.out.now)
        ∙ (ap (λ l. drop (length cs) (drop mid.at l)) split
        ∙ (ap (drop (length cs)) (drop_at (take old.at before ++ bs) (drop mid.at before) mid.at long)
        ∙ (drop-drop (length cs) mid.at before
        ∙ ap (λ n. drop n before) (omega (arith, p.size, length-append bs cs)))))

-- a field: its start and then its value
pub puts_field : {old mid new : Pen} (tag : ℕ) (value : List ℕ) (n : ℕ) → old.at ≤ length old.out.now → n ≡ length value → Puts old (field_start tag n) mid → Puts mid value new → Puts old (field tag value) new
puts_field tag value n h e p q = puts_same (field_start tag n ++ value) (field tag value) (ap (λ k. field_start tag k ++ value) e) (puts_both (field_start tag n) value h p q)

-- one element more is written
pub puts_more : {X : Type 0} {old mid new : Pen} (f : X → List ℕ) (xs : List X) (i : ℕ) (x : X) → i < length xs → x ≡ get_or xs i x → old.at ≤ length old.out.now → Puts old (flat_map f (take i xs)) mid → Puts mid (f x) new → Puts old (flat_map f (take (i + 1) xs)) new
puts_more f xs i x h is room p q =
    puts_same (flat_map f (take i xs) ++ f x) (flat_map f (take (i + 1) xs))
    (sym (joined_push f (take i xs) x) ∙ ap (flat_map f) (ap (λ y. take i xs ++ y ∷ []) is ∙ sym (take_more xs i x h)))
    (puts_both (flat_map f (take i xs)) (f x) room p q)

-- how long a file is, kind of part by kind of part, and then the end
pub file_length : (e : code.Exchange)
    → length (file_bytes (exchange_of e))
    ≡ length (flat_map (λ d. declaration_field (declaration_of d)) (vec_items e.atoms))
    + (length (flat_map (λ m. opening_field (message_text m)) (vec_items e.opening))
    + (length (flat_map (λ r. role_fields (role_of r)) (vec_items e.roles))
    + (length (flat_map (λ s. session_field (session_of s)) (vec_items e.sessions))
    + (length (flat_map (λ c. claim_field (claim_of c)) (vec_items e.claims))
    + 3))))
file_length e =
    let x = exchange_of e in
    simp length-append
    (omega (
      arith,
      ap length (flat_map-map declaration_field declaration_of (vec_items e.atoms)),
      ap length (flat_map-map opening_field message_text (vec_items e.opening)),
      ap length (flat_map-map role_fields role_of (vec_items e.roles)),
      ap length (flat_map-map session_field session_of (vec_items e.sessions)),
      ap length (flat_map-map claim_field claim_of (vec_items e.claims)),
    ))

-- one more write after those at the front
and_then : {old mid new : Pen} {bs cs : List ℕ} → old.at ≡ 0 → Puts old bs mid → Puts mid cs new → Puts old (bs ++ cs) new
and_then {bs = bs} {cs = cs} e p q = puts_both bs cs (omega arith) p q

-- elements that were put, by what each stands for
pub puts_items : {X Y : Type 0} (f : Y → List ℕ) (g : X → Y) {xs ys : List X} {old new : Pen} → xs ≡ ys → Puts old (flat_map (λ x. f (g x)) xs) new → Puts old (flat_map f (map g ys)) new
puts_items f g {xs} {ys} e p = puts_same (flat_map (λ x. f (g x)) xs) (flat_map f (map g ys)) (sym (flat_map-map f g xs) ∙ ap (λ l. flat_map f (map g l)) e) p

-- the parts of an exchange, kind after kind, and then the end
pub puts_file : (x : Exchange) {p₀ p₁ p₂ p₃ p₄ p₅ p₆ : Pen} → p₀.at ≡ 0
    → Puts p₀ (flat_map declaration_field x.atoms) p₁
    → Puts p₁ (flat_map opening_field x.opening) p₂
    → Puts p₂ (flat_map role_fields x.roles) p₃
    → Puts p₃ (flat_map session_field x.sessions) p₄
    → Puts p₄ (flat_map claim_field x.claims) p₅
    → Puts p₅ (field 0x7F []) p₆
    → Puts p₀ (file_bytes x) p₆
puts_file x start atoms opening roles sessions claims end =
    puts_same _ (file_bytes x) (grouped (flat_map declaration_field x.atoms) (flat_map opening_field x.opening) (flat_map role_fields x.roles) (flat_map session_field x.sessions) (flat_map claim_field x.claims) (field 0x7F []))
    (and_then start (and_then start (and_then start (and_then start (and_then start atoms opening) roles) sessions) claims) end)
  where
    grouped : (a b c d e f : List ℕ) → ((((a ++ b) ++ c) ++ d) ++ e) ++ f ≡ (a ++ (b ++ (c ++ (d ++ e)))) ++ f
    grouped a b c d e f = ap (λ l. l ++ f) (simp append_assoc)

-- a starting value is two bytes
pub pairs_length : (bs : List Binding) → length (flat_map binding_bytes bs) ≡ 2 * length bs
pairs_length [] = refl
pairs_length (b ∷ bs) = omega (arith, pairs_length bs)
