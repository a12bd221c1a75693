use Rattle.node_votes.proofs.Unled.{none_behind, none_between, there_behind}
use Rattle.node_votes.proofs.rounds.Rounds.unled_behind.Goals as goal

pub returns-in-Some-clause-there : goal.returns-in-Some-clause-there
returns-in-Some-clause-there g c = there_behind c.args.self.now.unled c.args.last c.range.result (c.range.ensures.in_range tt) c.in-Some.view.now _ c.in-Some.ensures.steps

pub returns-in-Some-clause-first : goal.returns-in-Some-clause-first
returns-in-Some-clause-first g c = none_between c.args.self.now.unled c.args.last c.range.result (c.range.ensures.in_range tt) c.in-Some.view.now _ c.in-Some.ensures.steps

pub returns-in-None-clause-first : goal.returns-in-None-clause-first
returns-in-None-clause-first g c = none_behind c.args.self.now.unled c.args.last c.range.result (c.range.ensures.in_range tt) c.in-None.ensures.steps.0
