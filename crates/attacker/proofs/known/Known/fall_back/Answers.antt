use Rattle.std.proofs.Common.{sym, ap, ◌∙◌}
use Rattle.std.proofs.lemmas.List.{take-map}
use Rattle.message.specs.Messages.{message_text}
use Rattle.attacker.specs.Texts.{texts}
use Rattle.attacker.proofs.known.Known.fall_back.Goals as goal

pub returns : goal.returns
returns c = record {
  after = λ i. record {
    atoms = c.args.mark.atoms;
    kept = (ap texts c.truncate.ensures.items ∙ sym (take-map message_text c.args.mark.parts c.args.self.now.parts.items)) i;
  };
}
