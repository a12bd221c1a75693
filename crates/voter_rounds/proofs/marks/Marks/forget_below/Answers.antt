use Rattle.std.proofs.Common.{◌≤◌, ◌<◌, ◌∙◌, arith}
use Rattle.std.proofs.lemmas.Grind.{common_steps}
use Rattle.std.proofs.lemmas.Bool.Decides.{nat_tests}
use Rattle.voter_rounds.specs.Marks.{Shows}
use Rattle.voter_rounds.proofs.Marking.{none_below}
use Rattle.voter_rounds.proofs.marks.Marks.forget_below.Goals as goal

pub returns-then-le : goal.returns-then-le
unfolding Shows
returns-then-le c = λ f shows.
    let above : c.args.floor ≤ c.in-Some.field-0.now = grind (arith, nat_tests, c.if-le.ensures, c.in-Some.first-is) in
    none_below c.loop-first.self.views c.args.self.now.views c.in-Some.field-0.now c.args.floor above c.in-Some.ensures.least c.loop-first.invariant f shows

pub loop-first-preserved : goal.loop-first-preserved
loop-first-preserved c = λ u ge.
    let below : c.in-Some.first < c.args.floor = grind (arith, nat_tests, c.if-le.ensures) in
    c.remove.ensures.updates.2 u (grind (arith, common_steps)) ∙ c.loop-first.invariant u ge
