-- The field at the front of bytes is what is written there.
use Rattle.std.proofs.Common.{◌≡◌, ℕ, ◌+◌, ◌*◌, ◌/◌, ◌%◌, ◌<◌, ◌≤◌, true, false, eqb, leb, List, [], ◌∷◌, ◌++◌, length, take, drop, Some, None, Option, sym, refl, ap, ◌∙◌, arith}
use Rattle.std.proofs.lemmas.List.{length-take-le, take-append-drop}
use Rattle.std.proofs.lemmas.Bool.{leb-true, eqb-true}
use Rattle.exchange.specs.declared.tag.Tag.{Tag}
use Rattle.exchange.specs.declared.tag.Tag.TheVariants.{AtomTag, OpeningTag, RoleTag, StepTag, SessionTag, ClaimTag, EndTag}
use Rattle.exchange.specs.Checks.{tag_of, tag_byte, cut, cut_rest}
use Rattle.exchange.specs.Files.{field}
use Rattle.exchange.proofs.Refusing.{either_way}

-- a tag's byte is the only one that is read as it
tag_byte_lem : (b : ℕ) (tag : Tag) → tag_of b ≡ Some tag → b ≡ tag_byte tag
tag_byte_lem b tag e =
    or_else 0x01 AtomTag _ refl (
    or_else 0x02 OpeningTag _ refl (
    or_else 0x03 RoleTag _ refl (
    or_else 0x04 StepTag _ refl (
    or_else 0x05 SessionTag _ refl (
    or_else 0x06 ClaimTag _ refl (
    or_else 0x7F EndTag _ refl (λ n. cc))))))) e
  where
    or_else : (c : ℕ) (found : Tag) (next : Option Tag) → c ≡ tag_byte found → (next ≡ Some tag → b ≡ tag_byte tag) → elim (eqb b c) as (λ _. Option Tag) [ true ↦ Some found | false ↦ next ] ≡ Some tag → b ≡ tag_byte tag
    or_else c found next is after = either_way (b ≡ tag_byte tag) (eqb b c) (Some found) next (Some tag) (λ k h. let same : found ≡ tag = cc in eqb-true b c k ∙ is ∙ ap tag_byte same) after

-- the value is whole
cut_rest_some : (t n : ℕ) (rest : List ℕ) (f : ℕ × List ℕ) → cut_rest t n rest ≡ Some f → (n ≤ length rest) × (t ≡ f.0) × (take n rest ≡ f.1)
cut_rest_some t n rest f e =
    either_way ((n ≤ length rest) × (t ≡ f.0) × (take n rest ≡ f.1)) (leb n (length rest)) (Some (t, take n rest)) None (Some f)
    (λ q h. let same : ◌≡◌ {A = ℕ × List ℕ} (t, take n rest) f = cc in (leb-true n (length rest) q, ap (λ p. p.0) same, ap (λ p. p.1) same))
    (λ h. let z : ◌≡◌ {A = ℕ} 0 1 = cc in absurd (omega arith)) e

-- what is cut off is the field of the tag that is read, where the value is short
pub cut_field : (bytes : List ℕ) (f : ℕ × List ℕ) (tag : Tag) → cut bytes ≡ Some f → tag_of f.0 ≡ Some tag → length f.1 < 256 → (rest : List ℕ) × (bytes ≡ field (tag_byte tag) f.1 ++ rest)
cut_field [] f tag e is short = let z : ◌≡◌ {A = ℕ} 0 1 = cc in absurd (omega arith)
cut_field (t ∷ []) f tag e is short = let z : ◌≡◌ {A = ℕ} 0 1 = cc in absurd (omega arith)
cut_field (t ∷ (h ∷ [])) f tag e is short = let z : ◌≡◌ {A = ℕ} 0 1 = cc in absurd (omega arith)
cut_field (t ∷ (h ∷ (l ∷ rest))) f tag e is short =
    let p = cut_rest_some t (h * 256 + l) rest f e in
    let size : length f.1 ≡ h * 256 + l = ap length (sym p.2) ∙ length-take-le (h * 256 + l) rest p.0 in
    let high : h ≡ length f.1 / 256 = omega arith in
    let low : l ≡ length f.1 % 256 = omega arith in
    let whole : rest ≡ f.1 ++ drop (h * 256 + l) rest = rw (← p.2) (sym (take-append-drop (h * 256 + l) rest)) in
    (drop (h * 256 + l) rest, cc (p.1 ∙ tag_byte_lem f.0 tag is, high, low, whole))
