use Rattle.std.proofs.Common.{◌≡◌, ◌≤◌, ◌<◌, refl, sym, ◌∙◌, arith}
use Rattle.std.proofs.lemmas.Bool.Decides.{nat_tests}
use Rattle.voter_rounds.specs.Marks.{Shows}
use Rattle.voter_rounds.proofs.Marking.{none_from}
use Rattle.voter_rounds.proofs.marks.Marks.any_within.Goals as goal

pub returns-then-lt : goal.returns-then-lt
unfolding Shows
returns-then-lt c = λ f shows.
    let before : c.in-Some.greatest.now < c.args.first = grind (arith, nat_tests, c.lt.ensures, c.if-lt.true) in
    none_from c.args.self.now.views c.in-Some.greatest.now c.args.first c.args.end c.in-Some.ensures.greatest before f shows

pub returns-then-gt : goal.returns-then-gt
unfolding Shows
returns-then-gt c = λ f shows.
    let behind : c.args.first ≤ c.in-Some.greatest.now = grind (arith, nat_tests, c.lt.ensures, c.if-lt.false) in
    let before : c.in-Some.greatest.now < c.args.end = grind (arith, nat_tests, c.gt.ensures, c.if-gt.true) in
    (λ yes. (c.in-Some.greatest.now, behind, before, sym (shows c.in-Some.greatest.now) ∙ c.in-Some.ensures.member), λ there. refl)
