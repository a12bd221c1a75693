use Rattle.std.proofs.Common.{◌≤◌, ◌<◌, ◌∙◌, arith}
use Rattle.std.proofs.lemmas.Grind.{common_steps}
use Rattle.std.proofs.lemmas.Bool.Decides.{nat_tests}
use Rattle.node_record.proofs.tables.forget_views.Goals as goal

pub returns-then-lt-clause-gone : goal.returns-then-lt-clause-gone
returns-then-lt-clause-gone c = λ u le there.
    let above : c.args.last < c.in-Some.field-0.now = grind (arith, nat_tests, c.if-lt.ensures, c.in-Some.first-is) in
    let least : c.in-Some.field-0.now ≤ u = grind (arith, nat_tests, c.in-Some.ensures.least u there) in
    absurd (omega (arith, le, least, above))

pub loop-first-preserved : goal.loop-first-preserved
loop-first-preserved c = λ u over.
    let below : c.in-Some.first ≤ c.args.last = grind (arith, nat_tests, c.if-lt.ensures) in
    c.remove.ensures.updates.2 u (grind (arith, common_steps)) ∙ c.loop-first.invariant u over
