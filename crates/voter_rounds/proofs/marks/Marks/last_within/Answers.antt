use Rattle.std.proofs.Common.{◌≡◌, ◌≤◌, ◌<◌, sym, ◌∙◌, arith}
use Rattle.std.proofs.lemmas.Bool.Decides.{nat_tests}
use Rattle.voter_rounds.specs.Marks.{Shows}
use Rattle.voter_rounds.proofs.Marking.{none_behind}
use Rattle.voter_rounds.proofs.marks.Marks.last_within.Goals as goal

pub returns-then-lt : goal.returns-then-lt
unfolding Shows
returns-then-lt c = λ f shows view from below.
    let before : c.in-Some.greatest.now < c.args.first = grind (arith, nat_tests, c.lt.ensures, c.if-lt.true) in
    sym (shows view) ∙ none_behind c.args.self.now.views c.in-Some.greatest.now view c.in-Some.ensures.greatest (omega (arith, before, from))

pub returns-then-le : goal.returns-then-le
unfolding Shows
returns-then-le c = λ f shows. record {
  behind = grind (arith, nat_tests, c.lt.ensures, c.if-lt.false);
  up_to = grind (arith, nat_tests, c.le.ensures, c.if-le.true);
  marked = sym (shows c.in-Some.greatest.now) ∙ c.in-Some.ensures.member;
  none_above = λ u above below. sym (shows u) ∙ none_behind c.args.self.now.views c.in-Some.greatest.now u c.in-Some.ensures.greatest above;
}
