use Rattle.std.proofs.Common.{◌≡◌, ◌+◌, ◌<◌, ⊎_elim, arith}
use Rattle.std.proofs.lemmas.Bool.{cases_lt}
use Rattle.voter_rounds.specs.Marks.{Shows}
use Rattle.voter_rounds.proofs.Marking.{range_marks, marked_within}
use Rattle.voter_rounds.proofs.marks.Marks.search_any.Goals as goal

pub returns : goal.returns
unfolding Shows
returns c = λ f shows.
    let some : 0 < c.args.end = ⊎_elim (λ lt. lt) (λ le. absurd (cc (c.in-Some.ensures.none.1 (omega (arith, le))))) (cases_lt 0 c.args.end) in
    let behind : c.in-Some.last + 1 ≡ c.args.end = omega (arith, c.in-Some.ensures.before, some) in
    marked_within behind
    (range_marks c.args.self.now.views c.args.first c.in-Some.last c.range.result c.next.new.self (c.range.ensures.in_range tt) c.next.result c.next.ensures.steps f shows c.is_some.result c.is_some.ensures)
