-- What a call adds to a listing.
use Rattle.std.specs.Prelude.{◌≡◌, ℕ, List, ◌++◌, map, Result, OnOk}
use Rattle.exchange.specs.Atoms.{declaration_of}
use Rattle.exchange.specs.Exchanges.{Declaration}
use Rattle.listing.specs.declared.listing.Listing.{Listing}

-- the declared atoms of a listing
abbrev pub declared_in : Listing → List Declaration
declared_in l = map declaration_of l.atoms.now

-- the words stand after what the text was before; the text is behind the same reference, and the atoms are the same
pub record Added (before after : Listing) (words : List ℕ) : Type 0 where
  pub same_text : after.text.ghost_name ≡ before.text.ghost_name
  pub same_atoms : after.atoms ≡ before.atoms
  pub items : after.text.now.items ≡ before.text.now.items ++ words

-- the same where the call answers Ok
abbrev pub Adds : {A E : Type 0} → Result A E → Listing → Listing → List ℕ → Type 0
Adds r before after words = OnOk r (Added before after words)
