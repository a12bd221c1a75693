use Rattle.simplex_member.specs.Recorded.{notarization_in}
use Rattle.node_core.proofs.Recalled.{no-report, verdict-report}
use Rattle.node_core.proofs.recalling.report_of_verdict.Goals as goal

pub returns-in_ok-duplicate-in-Some : goal.returns-in_ok-duplicate-in-Some
returns-in_ok-duplicate-in-Some g c = λ owner xs holds. verdict-report c.args.ok (notarization_in xs c.args.view) c.in-Some.certificate.now c.in_ok-duplicate-in-Some.field-0 c.if-not-ok.false (c.in-Some.ensures owner xs holds) c.in_ok-duplicate-in-Some.ensures

pub returns-in-None : goal.returns-in-None
returns-in-None g c = λ owner xs holds. no-report c.args.ok (notarization_in xs c.args.view) (c.in-None.ensures owner xs holds)
