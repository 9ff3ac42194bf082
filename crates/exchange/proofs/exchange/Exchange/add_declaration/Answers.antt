use Rattle.std.proofs.Common.{vec_items, sym, ap, ◌∙◌, arith}
use Rattle.std.specs.List.{list_all}
use Rattle.message.specs.Bytes.{is_atom}
use Rattle.exchange.specs.Atoms.{atoms_in}
use Rattle.exchange.specs.Rules.{once}
use Rattle.exchange.proofs.Adding.{atoms_more, atom_room}
use Rattle.exchange.proofs.Each.{each_push, once_push}
use Rattle.exchange.proofs.exchange.Exchange.add_declaration.Goals as goal

pub push_reserved-requires : goal.push_reserved-requires
push_reserved-requires c =
    let self = c.args.self.now in
    omega (arith, atom_room (vec_items self.atoms) c.args.atom self.atoms_are self.atoms_once c.if-not-is_atom.ensures.value c.if-declares.ensures.value, self.atoms.ok.0, self.atom_room)

pub invariant_of-self : goal.invariant_of-self
invariant_of-self c =
    let self = c.args.self.now in
    let items = vec_items self.atoms in
    let a = c.args.atom in
    let more = atoms_more items (vec_items c.push_reserved.new.self) (record { atom = a; label = c.in_ok-label.label }) c.push_reserved.ensures.items in
    record {
      atom_room = omega (arith, self.atom_room, c.push_reserved.ensures.capacity);
      opening_room = self.opening_room;
      role_room = self.role_room;
      session_room = self.session_room;
      claim_room = self.claim_room;
      atoms_are = ap (list_all is_atom) more ∙ each_push is_atom (atoms_in items) a self.atoms_are (sym c.if-not-is_atom.ensures.value);
      atoms_once = ap once more ∙ once_push (atoms_in items) a self.atoms_once (sym c.if-declares.ensures.value);
    }
