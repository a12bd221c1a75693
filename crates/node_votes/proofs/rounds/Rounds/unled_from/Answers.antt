use Rattle.node_votes.proofs.Unled.{none_before, none_from, none_in, there_from}
use Rattle.node_votes.proofs.rounds.Rounds.unled_from.Goals as goal

pub returns-then-is_empty-clause-first : goal.returns-then-is_empty-clause-first
returns-then-is_empty-clause-first g c = λ u at. none_in c.args.self.now.unled (c.is_empty.ensures.0 c.if-is_empty.true) u

pub returns-in-Some-clause-there : goal.returns-in-Some-clause-there
returns-in-Some-clause-there g c = there_from c.args.self.now.unled c.args.from c.range.result (c.range.ensures.in_range tt) c.in-Some.view.now _ c.in-Some.ensures.steps

pub returns-in-Some-clause-first : goal.returns-in-Some-clause-first
returns-in-Some-clause-first g c = none_before c.args.self.now.unled c.args.from c.range.result (c.range.ensures.in_range tt) c.in-Some.view.now _ c.in-Some.ensures.steps

pub returns-in-None-clause-first : goal.returns-in-None-clause-first
returns-in-None-clause-first g c = none_from c.args.self.now.unled c.args.from c.range.result (c.range.ensures.in_range tt) c.in-None.ensures.steps.0
