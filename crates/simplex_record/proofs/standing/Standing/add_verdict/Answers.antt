use Rattle.std.proofs.Common.{arith}
use Rattle.simplex_record.proofs.AddingKept.{KeepsVerdicts-judge, KeepsViews-judged, greater}
use Rattle.simplex_record.proofs.standing.Standing.add_verdict.Goals as goal

pub returns-then-verdict-clause-keeps : goal.returns-then-verdict-clause-keeps
returns-then-verdict-clause-keeps g c = λ views before keeps may.
    let standing = c.args.self.now in
    let kept = KeepsVerdicts-judge standing.verdicts before keeps.verdicts c.args.round c.args.verdict may c.insert.new.self c.in_ok-insert.ensures.updates in
    let current = greater standing.current_view c.next.result _ c.max-self.ensures in
    KeepsViews-judged views standing before keeps c.args.round c.args.verdict _ _ kept (rw c.if-verdict.true (omega (arith, current)))

pub returns-else-verdict-clause-keeps : goal.returns-else-verdict-clause-keeps
returns-else-verdict-clause-keeps g c = λ views before keeps may.
    let standing = c.args.self.now in
    let kept = KeepsVerdicts-judge standing.verdicts before keeps.verdicts c.args.round c.args.verdict may c.insert.new.self c.in_ok-insert.ensures.updates in
    KeepsViews-judged views standing before keeps c.args.round c.args.verdict _ _ kept (rw c.if-verdict.false (omega arith))
