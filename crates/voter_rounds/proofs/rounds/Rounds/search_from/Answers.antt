use Rattle.voter_rounds.specs.Rounds.{Keep}
use Rattle.voter_rounds.proofs.Finding.{begins_behind, first_from, none_from}
use Rattle.voter_rounds.proofs.rounds.Rounds.search_from.Goals as goal

pub returns-in-Some-clause-tracked : goal.returns-in-Some-clause-tracked
unfolding Keep
returns-in-Some-clause-tracked g c = λ s led past k. first_from k.rounds c.args.from c.range.result (c.range.ensures.in_range tt) _ (c.in-Some.first.now, c.in-Some.field-0-1.now) c.in-Some.ensures.steps c.get-number.ensures.fits

pub returns-in-None-clause-tracked : goal.returns-in-None-clause-tracked
unfolding Keep
returns-in-None-clause-tracked g c = λ s led past k. none_from k.rounds c.args.from c.range.result (c.range.ensures.in_range tt) c.in-None.ensures.steps.0

pub returns-in-Some-clause-behind : goal.returns-in-Some-clause-behind
returns-in-Some-clause-behind g c = begins_behind c.args.self.now.by_view c.args.from c.range.result (c.range.ensures.in_range tt) _ (c.in-Some.first.now, c.in-Some.field-0-1.now) c.in-Some.ensures.steps
