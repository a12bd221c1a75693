use Rattle.std.proofs.Common.{◌≤◌, inl, inr, arith}
use Rattle.std.specs.Ordering.{nat_cmp}
use Rattle.std.specs.BTreeSet.{contains}
use Rattle.std.proofs.lemmas.Map.Keys.{le_from_not_gt}
use Rattle.simplex_resolver.proofs.Choices.{bool_cases, less_from_lt}
use Rattle.simplex_resolver.proofs.held.Held.next_failed.Goals as goal

pub returns-in-Some-clause-held_least : goal.returns-in-Some-clause-held_least
returns-in-Some-clause-held_least c = λ v past short. elim (bool_cases (contains nat_cmp c.args.self.now.failed v)) [
  | inl there ↦ absurd (
      let least = rw c.in-Some.ensures.steps at ((c.range.ensures.in_range tt).2 v (less_from_lt c.args.above v past, tt) there) in
      let low : c.in-Some.view.now ≤ v = le_from_not_gt _ _ least in
      omega (arith, low, short))
  | inr gone ↦ gone
]

pub returns-in-None-clause-held_none : goal.returns-in-None-clause-held_none
returns-in-None-clause-held_none c = λ v past. (c.range.ensures.in_range tt).5 c.in-None.ensures.steps.0 v (less_from_lt c.args.above v past, tt)
