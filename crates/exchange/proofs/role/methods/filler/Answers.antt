use Rattle.std.proofs.Common.{◌≡◌, true, [], ◌∷◌, refl, rules}
use Rattle.message.specs.Trees.{is_form, reads}
use Rattle.exchange.proofs.role.methods.filler.Goals as goal

reads_name : is_form (0 ∷ []) ≡ true
unfolding reads
reads_name = refl

pub unwrap-requires : goal.unwrap-requires
unwrap-requires c = search (rules, c.read.ensures.value, reads_name)
