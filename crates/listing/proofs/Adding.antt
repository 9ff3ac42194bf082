-- Words that are added to a listing one after the other.
use Rattle.std.proofs.Common.{ℕ, List, ◌++◌, map, Ok, Err, Result, ◌∙◌, append_assoc}
use Rattle.exchange.specs.Atoms.{declaration_of}
use Rattle.exchange.specs.Exchanges.{Declaration}
use Rattle.listing.specs.declared.listing.Listing.{Listing}
use Rattle.listing.specs.Adds.{Added, Adds, declared_in}

-- x is added, and then y, which shows the declared atoms
pub then : {a b c : Listing} (x : List ℕ) (y : List Declaration → List ℕ) → Added a b x → Added b c (y (declared_in b)) → Added a c (x ++ y (declared_in a))
then {a} x y p q = record {
  same_text = q.same_text ∙ p.same_text;
  same_atoms = q.same_atoms ∙ p.same_atoms;
  items = q.items ∙ ((λ i. p.items i ++ y (map declaration_of (p.same_atoms i).now)) ∙ append_assoc a.text.now.items x (y (declared_in a)));
}

-- the same where the second call may fail
pub then_adds : {A E : Type 0} (r : Result A E) {a b : Listing} (c : Listing) (x : List ℕ) (y : List Declaration → List ℕ) → Added a b x → Adds r b c (y (declared_in b)) → Adds r a c (x ++ y (declared_in a))
then_adds (Ok v) c x y p q = then x y p q
then_adds (Err e) c x y p q = tt
