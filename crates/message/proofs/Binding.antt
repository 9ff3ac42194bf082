-- What giving a variable a value, or taking it away, changes. Assumes nothing.
use Rattle.std.proofs.Common.{◌≡◌, ℕ, ◌+◌, ◌-◌, ◌<◌, ◌≤◌, Bool, true, false, ◌≢◌, List, length, get_or, set, None, Option, sym, refl, ap, ◌∙◌, ⊎_elim, arith}
use Rattle.std.proofs.lemmas.List.{get_or-set_same, get_or-set_other}
use Rattle.std.proofs.lemmas.Bool.{cases_eq}
use Rattle.message.specs.Bytes.{is_variable}
use Rattle.message.specs.Filling.{fitting}
use Rattle.message.specs.Values.{value_at}
use Rattle.message.proofs.Atoms.{variable_place}

-- what the test decides, where its answer is known
pub value_known : (atoms : List (Option ℕ)) (v : ℕ) → is_variable v ≡ true → value_at atoms v ≡ get_or atoms (v - 0x80) None
value_known atoms v e = ap (λ t. elim t as (λ _. Option ℕ) [ true ↦ get_or atoms (v - 0x80) None | false ↦ None ]) e

pub value_missing : (atoms : List (Option ℕ)) (v : ℕ) → is_variable v ≡ false → value_at atoms v ≡ None
value_missing atoms v e = ap (λ t. elim t as (λ _. Option ℕ) [ true ↦ get_or atoms (v - 0x80) None | false ↦ None ]) e

-- a variable's value is of the variable's kind
pub value_fits : (atoms : List (Option ℕ)) → ((i : ℕ) → fitting (0x80 + i) (get_or atoms i None) ≡ true) → (v : ℕ) → fitting v (value_at atoms v) ≡ true
value_fits atoms fit v = go (is_variable v) refl
  where
    go : (t : Bool) → is_variable v ≡ t → fitting v (value_at atoms v) ≡ true
    go true e =
        let same : v ≡ 0x80 + (v - 0x80) = omega (arith, variable_place v e) in
        ap (fitting v) (value_known atoms v e) ∙ ap (λ w. fitting w (get_or atoms (v - 0x80) None)) same ∙ fit (v - 0x80)
    go false e = ap (fitting v) (value_missing atoms v e)

module _ (atoms : List (Option ℕ)) (whole : length atoms ≡ 80) (v place : ℕ) (is : is_variable v ≡ true) (at : place ≡ v - 0x80) (o : Option ℕ) where
  range : (0x80 ≤ v) × (v < 0xD0)
  range = variable_place v is

  -- the values that were of their kinds still are
  pub set_fits : fitting v o ≡ true → ((i : ℕ) → fitting (0x80 + i) (get_or atoms i None) ≡ true)
      → (i : ℕ) → fitting (0x80 + i) (get_or (set atoms place o) i None) ≡ true
  set_fits e before i = ⊎_elim here there (cases_eq i place)
    where
      here : i ≡ place → fitting (0x80 + i) (get_or (set atoms place o) i None) ≡ true
      here same =
          let v_is : 0x80 + i ≡ v = omega (arith, range, at) in
          let found : get_or (set atoms place o) i None ≡ o = ap (λ j. get_or (set atoms place o) j None) same ∙ get_or-set_same atoms place o None (omega (arith, range, at)) in
          ap (λ w. fitting w (get_or (set atoms place o) i None)) v_is ∙ ap (fitting v) found ∙ e

      there : (i ≡ place → ⊥) → fitting (0x80 + i) (get_or (set atoms place o) i None) ≡ true
      there other = ap (fitting (0x80 + i)) (get_or-set_other atoms place i o None other) ∙ before i

  -- the variable has the new value
  pub set_here : value_at (set atoms place o) v ≡ o
  set_here = value_known (set atoms place o) v is ∙ ap (λ i. get_or (set atoms place o) i None) (sym at) ∙ get_or-set_same atoms place o None (omega (arith, range, at))

  -- every other variable keeps its own
  pub set_there : (w : ℕ) → (w ≡ v → ⊥) → value_at (set atoms place o) w ≡ value_at atoms w
  set_there w other = go (is_variable w) refl
    where
      go : (t : Bool) → is_variable w ≡ t → value_at (set atoms place o) w ≡ value_at atoms w
      go true e =
          let apart : w - 0x80 ≢ place = λ same. other (omega (arith, range, at, variable_place w e)) in
          value_known (set atoms place o) w e ∙ get_or-set_other atoms place (w - 0x80) o None apart ∙ sym (value_known atoms w e)
      go false e = value_missing (set atoms place o) w e ∙ sym (value_missing atoms w e)
