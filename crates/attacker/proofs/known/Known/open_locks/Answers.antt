use Rattle.std.proofs.Common.{◌≡◌, ℕ, vec_len, ◌<◌, ◌≤◌, [], length, get_or, drop, MatchBool, sym, ap, ◌∙◌, subst, arith}
use Rattle.std.proofs.lemmas.List.{get_or-map}
use Rattle.message.specs.Messages.{message_text}
use Rattle.message.specs.declared.closed.Message.{Message}
use Rattle.attacker.specs.declared.atoms.Atoms.{Atoms}
use Rattle.attacker.specs.declared.known.Known.{Known}
use Rattle.attacker.specs.Known.{state_of, weight, opens_now, Absorbs}
use Rattle.attacker.proofs.Learning.{message_tree, kept_count}
use Rattle.attacker.proofs.Scanning.{scan_starts, scan_step, scan_ends, scan_room, scan_long, Scan}
use Rattle.attacker.proofs.known.Known.open_locks.Goals as goal

pub loop-i-init : goal.loop-i-init
loop-i-init c = scan_starts c.args.opened c.args.wider (state_of c.args.self.now) c.requires.inside

-- the part at i is one of those kept at the start
module _ (opened wider : Atoms) (known now : Known) (i : ℕ) (scan : Scan opened wider (state_of known) i (state_of now)) (below : i < vec_len known.parts) where
  inside : i < length now.parts.items
  inside = omega (arith, kept_count known, kept_count now, now.parts.ok.0, scan_long opened wider (state_of known) i (state_of now) scan)

  kept_at : (item : Message) → item ≡ get_or now.parts.items i item → get_or (state_of now).kept i [] ≡ message_text item
  kept_at item is = get_or-map message_text now.parts.items i item [] inside ∙ ap message_text (sym is)

  of_start : i < length (state_of known).kept
  of_start = omega (arith, kept_count known)

pub open_lock-requires : goal.open_lock-requires
open_lock-requires c =
    let old = c.args.self.now in
    let now = c.loop-i.self in
    let scan = c.loop-i.invariant in
    let item = c.index.result.now in
    let below : c.loop-i.i < vec_len old.parts = omega arith in
    record { room = omega (arith, scan_room c.args.opened c.args.wider (state_of old) c.requires.inside c.loop-i.i (state_of now) scan (of_start c.args.opened c.args.wider old now c.loop-i.i scan below) (message_text item) (kept_at c.args.opened c.args.wider old now c.loop-i.i scan below item c.index.ensures) c.requires.room, ap (weight c.args.opened) c.bytes.ensures.value) }

pub loop-i-preserved : goal.loop-i-preserved
loop-i-preserved c =
    let old = c.args.self.now in
    let now = c.loop-i.self in
    let next = state_of c.open_lock.new.self in
    let scan = c.loop-i.invariant in
    let item = c.index.result.now in
    let tree = message_tree item in
    let below : c.loop-i.i < vec_len old.parts = omega arith in
    scan_step c.args.opened c.args.wider (state_of old) c.requires.inside c.loop-i.i (state_of now) scan (of_start c.args.opened c.args.wider old now c.loop-i.i scan below) (message_text item) (kept_at c.args.opened c.args.wider old now c.loop-i.i scan below item c.index.ensures) tree.0 tree.1 tree.2 next
    (subst (λ l. MatchBool (opens_now c.args.opened c.args.wider l) (Absorbs c.args.wider (drop 2 l) (state_of now) next) (next ≡ state_of now)) c.bytes.ensures.value c.open_lock.ensures.opens)

pub returns : goal.returns
returns c =
    let scan = c.loop-i.invariant in
    let all : length (state_of c.args.self.now).kept ≤ c.loop-i.i = omega (arith, kept_count c.args.self.now) in
    let ends = scan_ends c.args.opened c.args.wider (state_of c.args.self.now) c.requires.inside c.loop-i.i all (state_of c.loop-i.self) scan in
    record {
      room = ends.0;
      opens = record { fresh = scan.fresh; after = scan.kept_is; knows = ends.1 };
      keeps = scan.keeps;
    }
