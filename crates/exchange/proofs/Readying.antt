-- A field that is due, passes no limit and has a length that fits finds its place.
use Rattle.std.proofs.Common.{◌≡◌, ℕ, suc, true, List, [], ◌∷◌, length, Ok, sym, subst, arith}
use Rattle.std.proofs.lemmas.Bool.{ltb-true, leb-true}
use Rattle.message.specs.declared.stop.Stop.TheVariants.{WrongLength}
use Rattle.exchange.specs.declared.tag.Tag.{Tag}
use Rattle.exchange.specs.declared.tag.Tag.TheVariants.{AtomTag, OpeningTag, RoleTag, StepTag, SessionTag, ClaimTag, EndTag}
use Rattle.exchange.specs.Checks.{Item, declares, opens, role, runs, finish, is_due, has_room, length_fits, last_role, value_item, item_of}
use Rattle.exchange.specs.Exchanges.{Exchange}
use Rattle.exchange.specs.Reading.{Ready}
use Rattle.exchange.proofs.Items.{step_item_lem, claim_item_lem}
use Rattle.exchange.proofs.Passing.{within_both}
use Rattle.exchange.proofs.Refusing.{ok_same, not_ok, unless_ok}

pub ready : (x : Exchange) (tag : Tag) (value : List ℕ) (item : Item) → is_due x tag ≡ true → has_room x tag ≡ true → item_of tag value ≡ Ok item → Ready x item
ready x tag value item due room e =
    let p = unless_ok (length_fits tag (length value)) WrongLength (value_item tag value) item e in
    go tag value due room p.0 p.1
  where
    go : (tag : Tag) (value : List ℕ) → is_due x tag ≡ true → has_room x tag ≡ true → length_fits tag (length value) ≡ true → value_item tag value ≡ Ok item → Ready x item
    go AtomTag [] due room fits e = absurd (not_ok WrongLength item e)
    go AtomTag (a ∷ label) due room fits e = subst (Ready x) (ok_same (declares a label) item e) (omega (arith, (within_both 2 13 (suc (length label)) fits).1))
    go OpeningTag [] due room fits e = absurd (not_ok WrongLength item e)
    go OpeningTag (b ∷ rest) due room fits e = subst (Ready x) (ok_same (opens (b ∷ rest)) item e) (ltb-true (length x.opening) 32 room)
    go RoleTag [] due room fits e = subst (Ready x) (ok_same role item e) (ltb-true (length x.roles) 4 room)
    go RoleTag (b ∷ rest) due room fits e = subst (Ready x) (ok_same role item e) (ltb-true (length x.roles) 4 room)
    go StepTag [] due room fits e = absurd (not_ok WrongLength item e)
    go StepTag (b ∷ rest) due room fits e =
        let s = step_item_lem b rest item e in
        subst (Ready x) (sym s.is) (leb-true 1 (length x.roles) due, ltb-true (length (last_role x)) 12 room)
    go SessionTag [] due room fits e = absurd (not_ok WrongLength item e)
    go SessionTag (r ∷ bs) due room fits e = subst (Ready x) (ok_same (runs r bs) item e) (ltb-true (length x.sessions) 8 room)
    go ClaimTag [] due room fits e = absurd (not_ok WrongLength item e)
    go ClaimTag (b ∷ rest) due room fits e =
        let s = claim_item_lem b rest item e in
        subst (Ready x) (sym s.is) (ltb-true (length x.claims) 8 room)
    go EndTag [] due room fits e = subst (Ready x) (ok_same finish item e) tt
    go EndTag (b ∷ rest) due room fits e = subst (Ready x) (ok_same finish item e) tt
