use Rattle.std.proofs.Common.{◌≡◌, ◌<◌, ◌≤◌, length, get_or, rules}
use Rattle.std.proofs.lemmas.List.{take-map}
use Rattle.attacker.specs.Known.{state_of}
use Rattle.attacker.proofs.Marking.{remembers_before, remembers_all}
use Rattle.attacker.proofs.full.FullAttackerAttacker.fall_back.Goals as goal
use Rattle.attacker.proofs.full.FullAttackerAttacker.fall_back.Goals.{in-Some, in_default}

pub returns-clause-list : goal.returns-clause-list
returns-clause-list c = search (rules, take-map)

pub invariant_of-self : goal.invariant_of-self
invariant_of-self c =
    let heard = c.self.inside.heard in
    let known = state_of c.self.inside.known in
    elim c.match-get.branch [
      | in-Some w ↦
          let there : c.args.n < length heard = search rules in
          let is : w.in-Some.next.now ≡ get_or heard c.args.n w.in-Some.next.now = search rules in
          rw (c.truncate.ensures.list, w.self-inside-is) (remembers_before heard known c.self.invariant c.args.n w.in-Some.next.now there is (state_of w.fall_back.new.self) w.fall_back.ensures.after)
      | in_default w ↦ let all : length heard ≤ c.args.n = search rules in rw (c.truncate.ensures.list, w.self-inside-is) (remembers_all heard known c.self.invariant c.args.n all)
    ]
