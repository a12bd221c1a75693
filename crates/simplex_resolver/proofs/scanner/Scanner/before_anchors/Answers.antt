use Rattle.std.proofs.Common.{◌≡◌, ◌<◌, ◌≤◌, arith}
use Rattle.std.proofs.lemmas.Bool.Decides.{nat_tests}
use Rattle.simplex_resolver.proofs.Gaps.{none_in_term, none_to_floor}
use Rattle.simplex_resolver.proofs.TermStarts.{room-term, term_end-ge}
use Rattle.simplex_resolver.proofs.scanner.Scanner.before_anchors.Goals as goal

pub returns-then-le-clause-none : goal.returns-then-le-clause-none
returns-then-le-clause-none c = none_to_floor c.args.self.now c.args.last (grind (arith, nat_tests))

pub term_end-requires : goal.term_end-requires
term_end-requires c =
    let low = c.requires in
    let room = room-term c.args.self.now.held.length c.args.self.now.some c.args.last c.args.self.now.current c.args.self.now.current_room (omega (arith, low)) in
    omega (arith, room)

pub returns-clause-behind : goal.returns-clause-behind
returns-clause-behind c = rw c.term_end.ensures (term_end-ge c.args.self.now.held.length c.args.self.now.some c.args.last)

pub returns-clause-above : goal.returns-clause-above
returns-clause-above c =
    let high : c.args.self.now.floor < c.args.last = grind (arith, nat_tests) in
    let to = term_end-ge c.args.self.now.held.length c.args.self.now.some c.args.last in
    let is = c.term_end.ensures in
    omega (arith, high, to, is)

pub returns-clause-none : goal.returns-clause-none
returns-clause-none c =
    let high : c.args.self.now.floor < c.args.last = grind (arith, nat_tests) in
    none_in_term c.args.self.now c.args.last c.args.self.now.some high c.term_end.result c.term_end.ensures
