use Rattle.std.proofs.Common.{arith}
use Rattle.simplex_record.proofs.CoverageSpans.{AreApart-replaced, Joins, Replaces, Replaces-from_calls, covered_iff}
use Rattle.simplex_record.proofs.coverage.Coverage.cover.Goals as goal

joins : (c : goal.After-remove_between) → Joins c.self.inside.last_by_first.entries c.args.first c.args.last c.joined_first-start.result c.joined_last-end.result
joins c =
    let start = c.joined_first-start.ensures in
    let end = c.joined_last-end.ensures in
    rw c.self.view_is (record {
      before = start.before;
      forward = c.requires;
      behind = end.behind;
      fits = omega arith;
      covered_before = start.between;
      covered_behind = end.between;
      bare_before = start.bare;
      bare_behind = end.bare;
    })

replaces : (c : goal.After-remove_between) → Replaces c.self.inside.last_by_first.entries c.remove_between.new.last_by_first.entries c.joined_first-start.result c.joined_last-end.result
replaces c = Replaces-from_calls c.self.inside.last_by_first c.insert.new.self _ _ _ (omega arith) c.in_ok-insert.ensures.was_ordered c.in_ok-insert.ensures.ordered c.in_ok-insert.ensures.updates c.remove_between.ensures

pub invariant_of-self-2 : goal.invariant_of-self-2
invariant_of-self-2 c = AreApart-replaced _ _ _ _ _ _ c.self.invariant (joins c) (replaces c)

pub returns-clause-ok : goal.returns-clause-ok
returns-clause-ok c = rw (← c.self.view_is) (covered_iff _ _ _ _ _ _ c.self.invariant (joins c) (replaces c))
