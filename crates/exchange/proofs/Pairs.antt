-- The starting values that are read of a session's pairs fit, and are written as those pairs.
use Rattle.std.proofs.Common.{◌≡◌, ℕ, ◌*◌, ◌%◌, true, ltb, List, [], ◌∷◌, ◌++◌, length, Ok, sym, refl, ◌∙◌, arith}
use Rattle.std.specs.List.{flat_map, list_all}
use Rattle.std.proofs.lemmas.List.{append-nil, append_assoc, map_push}
use Rattle.std.proofs.lemmas.Bool.{and_parts, and_from, ltb-true, lt-ltb}
use Rattle.message.specs.declared.stop.Stop.TheVariants.{UndeclaredAtom, NotAscending, OutOfRange, WrongKind}
use Rattle.message.specs.Filling.{of_kind}
use Rattle.message.specs.Variables.{among}
use Rattle.exchange.specs.Exchanges.{Step, Binding}
use Rattle.exchange.specs.Files.{binding_bytes}
use Rattle.exchange.specs.Rules.{ascending, role_variables, started, binding_fits}
use Rattle.exchange.specs.Checks.{is_next, pair_fits, bindings_of}
use Rattle.exchange.proofs.Each.{each_push, ascending_push, joined_push}
use Rattle.exchange.proofs.Refusing.{ok_same, unless_ok, then_ok}

-- a variable that is larger than the last is larger than each
below_next : (got : List Binding) (v : ℕ) → ascending (started got) ≡ true → is_next got v ≡ true → list_all (λ u. ltb u v) (started got) ≡ true
below_next [] v e h = refl
below_next (b ∷ []) v e h = and_from _ _ h refl
below_next (b ∷ (d ∷ rest)) v e h =
    let p = and_parts _ _ e in
    let after = below_next (d ∷ rest) v p.1 h in
    let lower = ltb-true b.variable d.variable (and_parts _ _ p.0).0 in
    let upper = ltb-true d.variable v (and_parts _ _ after).0 in
    and_from _ _ (lt-ltb b.variable v (omega arith)) after

-- the bytes of pairs are two for each
pub pairs_length : (starts : List Binding) → length (flat_map binding_bytes starts) ≡ 2 * length starts
pairs_length [] = refl
pairs_length (b ∷ rest) = omega (arith, pairs_length rest)

module _ (atoms : List ℕ) (steps : List Step) where
  -- pairs that fit and stand in order
  pub record Paired (starts : List Binding) : Type 0 where
    pub in_order : ascending (started starts) ≡ true
    pub fits : list_all (binding_fits atoms steps) starts ≡ true

  -- one pair more
  paired_push : (got : List Binding) (v a : ℕ) (b : Binding) → Paired got → pair_fits atoms steps got v a ≡ Ok b → Paired (got ++ b ∷ []) × (binding_bytes b ≡ v ∷ a ∷ [])
  paired_push got v a b before e =
      let pair : Binding = record { variable = v; atom = a } in
      let p = unless_ok (is_next got v) NotAscending _ b e in
      let q = unless_ok (among v (role_variables steps)) OutOfRange _ b p.1 in
      let r = unless_ok (among a atoms) UndeclaredAtom _ b q.1 in
      let s = unless_ok (of_kind v a) WrongKind (Ok pair) b r.1 in
      let fit : binding_fits atoms steps pair ≡ true = and_from _ _ q.0 (and_from _ _ r.0 s.0) in
      let names : started (got ++ pair ∷ []) ≡ started got ++ v ∷ [] = map_push (λ (d : Binding). d.variable) got pair in
      rw (← ok_same pair b s.1) (
        record {
          in_order = rw names (ascending_push (started got) v before.in_order (below_next got v before.in_order p.0));
          fits = each_push (binding_fits atoms steps) got pair before.fits fit;
        },
        refl,
      )

  -- all pairs
  pub bindings_ok : (got : List Binding) (bs : List ℕ) (starts : List Binding) → length bs % 2 ≡ 0 → Paired got → bindings_of atoms steps got bs ≡ Ok starts → Paired starts × (flat_map binding_bytes starts ≡ flat_map binding_bytes got ++ bs)
  unfolding bindings_of
  bindings_ok got [] starts even before e = rw (← ok_same got starts e) (before, sym (append-nil (flat_map binding_bytes got)))
  bindings_ok got (v ∷ []) starts even before e = absurd (omega arith)
  bindings_ok got (v ∷ (a ∷ rest)) starts even before e =
      let p = then_ok (pair_fits atoms steps got v a) (λ b. bindings_of atoms steps (got ++ b ∷ []) rest) starts e in
      let one = paired_push got v a p.0 before p.1 in
      let all = bindings_ok (got ++ p.0 ∷ []) rest starts (omega arith) one.0 p.2 in
      (all.0, all.1 ∙ rw (joined_push binding_bytes got p.0, one.1, append_assoc))
