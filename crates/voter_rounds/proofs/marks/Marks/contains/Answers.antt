use Rattle.std.proofs.Common.{◌≡◌, ◌<◌, sym, ◌∙◌, arith}
use Rattle.std.proofs.lemmas.Bool.Decides.{nat_tests}
use Rattle.voter_rounds.specs.Marks.{Shows}
use Rattle.voter_rounds.proofs.Marking.{none_behind}
use Rattle.voter_rounds.proofs.marks.Marks.contains.Goals as goal

pub returns-then-lt : goal.returns-then-lt
unfolding Shows
returns-then-lt c = λ f shows.
    let before : c.in-Some.last.now < c.args.view = grind (arith, nat_tests, c.lt.ensures, c.if-lt.true) in
    sym (none_behind c.args.self.now.views c.in-Some.last.now c.args.view c.in-Some.ensures.greatest before) ∙ shows c.args.view

pub returns-then-eq : goal.returns-then-eq
unfolding Shows
returns-then-eq c = λ f shows.
    let same : c.in-Some.last.now ≡ c.args.view = grind (arith, nat_tests, c.eq.ensures, c.if-eq.true) in
    sym (rw same at c.in-Some.ensures.member) ∙ shows c.args.view
