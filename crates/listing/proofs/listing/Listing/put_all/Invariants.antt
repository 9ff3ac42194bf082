use Rattle.std.proofs.Common.{◌≡◌, ◌++◌, drop}
use Rattle.listing.specs.Adds.{declared_in}
use Rattle.listing.specs.Words.{numbered}
use Rattle.listing.proofs.listing.Listing.put_all.Given as goal

abbrev pub invariant-loop-number : goal.invariant-loop-number
invariant-loop-number g l =
    let part = g.P.Part.shown (declared_in l.initial.self) in record {
      same_text : l.self.text.ghost_name ≡ l.initial.self.text.ghost_name;
      same_atoms : l.self.atoms ≡ l.initial.self.atoms;
      whole : l.self.text.now.items ++ numbered part l.number (drop l.number l.parts) ≡ l.initial.self.text.now.items ++ numbered part 0 l.parts;
    }
