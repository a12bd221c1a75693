use Rattle.std.proofs.Common.{arith}
use Rattle.simplex_state.proofs.Firsts.{first_there, none_there}
use Rattle.simplex_state.proofs.Members.{nothing_in}
use Rattle.simplex_state.proofs.owed.Owed.first_from.Goals as goal

pub returns-then-is_empty-clause-first : goal.returns-then-is_empty-clause-first
returns-then-is_empty-clause-first c = λ u at. nothing_in c.args.self.now.views (λ left. let length = c.is_empty.ensures.0 c.if-is_empty.true in omega (arith, length, left)) u

pub returns-in-Some-clause-first : goal.returns-in-Some-clause-first
returns-in-Some-clause-first c = first_there c.args.self.now c.args.from c.range.result (c.range.ensures.in_range tt) c.in-Some.view.now _ c.in-Some.ensures.steps

pub returns-in-None-clause-first : goal.returns-in-None-clause-first
returns-in-None-clause-first c = none_there c.args.self.now c.args.from c.range.result (c.range.ensures.in_range tt) c.in-None.ensures.steps.0
