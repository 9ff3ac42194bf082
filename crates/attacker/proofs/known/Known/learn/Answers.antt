use Rattle.std.proofs.Common.{◌≡◌, ◌+◌, [], ◌∷◌, ◌++◌, sym, ap, ◌∙◌, subst, append_assoc, arith}
use Rattle.message.specs.Trees.{atom, write}
use Rattle.attacker.specs.Derivation.{Knowledge}
use Rattle.attacker.specs.Known.{state_of, known_by, signs, weights}
use Rattle.attacker.specs.Atoms.{key_bits}
use Rattle.attacker.proofs.Keys.{key_few, key_grows, same_opener, same_weights}
use Rattle.attacker.proofs.Learning.{message_tree, parted_now, open_now, settled, opening_starts, opening_on, room_after}
use Rattle.attacker.proofs.Stepping.{known_still}
use Rattle.attacker.proofs.Weighing.{weights_long}
use Rattle.attacker.proofs.known.Known.learn.Goals as goal

pub absorb-requires : goal.absorb-requires
absorb-requires c =
    let old = state_of c.args.self.now in
    omega (arith, c.requires.room, weights_long old.atoms old.kept, ap signs c.bytes.ensures.value)

pub loop-opened-init : goal.loop-opened-init
loop-opened-init c =
    let old = state_of c.args.self.now in
    let first = state_of c.absorb.new.self in
    let tree = message_tree c.args.message.now in
    let took = c.absorb.ensures.absorbs tree.0 tree.1 (tree.2 ∙ sym c.bytes.ensures.value) in
    opening_starts old.atoms first (λ b h. known_still old.atoms tree.0 tree.1 old first took (atom b) h)

pub open_locks-requires : goal.open_locks-requires
open_locks-requires c =
    let old = state_of c.args.self.now in
    let tree = message_tree c.args.message.now in
    let took = c.absorb.ensures.absorbs tree.0 tree.1 (tree.2 ∙ sym c.bytes.ensures.value) in
    record {
      room = omega (arith, c.requires.room, c.loop-opened.invariant.room, room_after old.atoms tree.0 tree.1 old (state_of c.absorb.new.self) took, ap signs tree.2);
      inside = c.loop-opened.invariant.inside;
    }

pub loop-opened-smaller : goal.loop-opened-smaller
loop-opened-smaller c =
    let opened = c.loop-opened.opened in
    let atoms = c.loop-opened.self.atoms in
    let apart : key_bits opened ≡ key_bits atoms → ⊥ = λ same. c.loop-opened-test.true (c.keys.ensures.value ∙ same ∙ sym c.keys-in-loop-opened.ensures.value) in
    omega (arith, key_few atoms, key_grows opened atoms c.loop-opened.invariant.inside)

pub loop-opened-preserved : goal.loop-opened-preserved
loop-opened-preserved c =
    let told = c.open_locks.ensures in
    opening_on c.args.self.now.atoms (state_of c.absorb.new.self) c.loop-opened.opened (state_of c.loop-opened.self) (state_of c.open_locks.new.self) c.loop-opened.invariant told.opens told.room told.keeps

pub returns : goal.returns
returns c =
    let old = state_of c.args.self.now in
    let first = state_of c.absorb.new.self in
    let now = state_of c.loop-opened.self in
    let opening = c.loop-opened.invariant in
    let tree = message_tree c.args.message.now in
    let took = c.absorb.ensures.absorbs tree.0 tree.1 (tree.2 ∙ sym c.bytes.ensures.value) in
    let same : key_bits c.loop-opened.opened ≡ key_bits now.atoms = sym c.keys.ensures.value ∙ c.loop-opened-test.false ∙ c.keys-in-loop-opened.ensures.value in
    record {
      room = sym (same_weights c.loop-opened.opened now.atoms same now.kept) ∙ opening.room ∙ room_after old.atoms tree.0 tree.1 old first took ∙ ap (λ l. weights old.atoms old.kept + signs l) tree.2;
      knows = λ heard before.
          let now-heard = heard ++ write tree.0 ∷ [] in
          let ends = opening.knows now-heard (parted_now heard tree.0 tree.1 old first took before) (open_now heard tree.0 tree.1 old first took before) in
          subst (λ l. Knowledge (heard ++ l ∷ []) (known_by now)) tree.2 (settled now-heard now ends.0 (λ k j x form h inv op. ends.1 k j x form h inv (same_opener c.loop-opened.opened now.atoms same k j inv ∙ op)));
      keeps = (_, opening.after ∙ ap (λ l. l ++ opening.fresh) took.keeps ∙ append_assoc old.kept _ opening.fresh);
    }
