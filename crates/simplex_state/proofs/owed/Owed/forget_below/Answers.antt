use Rattle.std.proofs.Common.{◌≤◌, ◌<◌, ◌∙◌, arith}
use Rattle.std.proofs.lemmas.Grind.{common_steps}
use Rattle.std.proofs.lemmas.Bool.Decides.{nat_tests}
use Rattle.simplex_state.proofs.owed.Owed.forget_below.Goals as goal

pub returns-then-le-clause-below : goal.returns-then-le-clause-below
returns-then-le-clause-below c = λ u lt there.
    let above : c.args.floor ≤ c.in-Some.field-0.now = grind (arith, nat_tests, c.if-le.ensures, c.in-Some.first-is) in
    let le : c.in-Some.field-0.now ≤ u = grind (arith, nat_tests, c.in-Some.ensures.least u there) in
    absurd (omega (arith, le, lt, above))

pub returns-then-le-clause-kept : goal.returns-then-le-clause-kept
returns-then-le-clause-kept c = λ u ge there. c.loop-first.invariant u ge ∙ there

pub loop-first-preserved : goal.loop-first-preserved
loop-first-preserved c = λ u ge.
    let below : c.in-Some.first < c.args.floor = grind (arith, nat_tests, c.if-le.ensures) in
    c.remove.ensures.updates.2 u (grind (arith, common_steps)) ∙ c.loop-first.invariant u ge

pub returns-clause-kept : goal.returns-clause-kept
returns-clause-kept c = λ u ge there. c.loop-first.invariant u ge ∙ there
