use Rattle.std.proofs.Common.{arith, sym, ◌∙◌, ◌<◌}
use Rattle.std.proofs.lemmas.Bool.Decides.{nat_tests}
use Rattle.voter_rounds.specs.Marks.{Shows}
use Rattle.voter_rounds.proofs.Marking.{last_marked, none_within}
use Rattle.voter_rounds.proofs.marks.Marks.search_last.Goals as goal

pub returns-then-lt : goal.returns-then-lt
unfolding Shows
returns-then-lt c = λ f shows view from below.
    let past : c.args.last < c.args.first = grind (arith, nat_tests, c.lt.ensures, c.if-lt.true) in
    absurd (omega (arith, past, from, below))

pub returns-in-Some : goal.returns-in-Some
unfolding Shows
returns-in-Some c = λ f shows. last_marked c.args.self.now.views c.args.first c.args.last c.range.result (c.range.ensures.in_range tt) f shows c.in-Some.view.now _ c.in-Some.ensures.steps

pub returns-in-None : goal.returns-in-None
unfolding Shows
returns-in-None c = λ f shows view from below. sym (shows view) ∙ none_within c.args.self.now.views c.args.first c.args.last c.range.result (c.range.ensures.in_range tt) c.in-None.ensures.steps.0 view from below
