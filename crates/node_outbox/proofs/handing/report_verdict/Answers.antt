use Rattle.std.proofs.Common.{ap}
use Rattle.std.proofs.lemmas.Result.{on_ok_weaker}
use Rattle.simplex_messages.specs.declared.activity.Activity.TheVariants as activity
use Rattle.simplex_member.specs.Deeds.{Reports}
use Rattle.node_outbox.specs.Handing.{nothing_more}
use Rattle.node_outbox.proofs.handing.report_verdict.Goals as goal

pub returns-then-not-ok-clause-acts : goal.returns-then-not-ok-clause-acts
returns-then-not-ok-clause-acts g c = λ f. rw c.if-not-ok.true (nothing_more f c.args.out.now.items)

pub returns-in-Ok-clause-acts : goal.returns-in-Ok-clause-acts
returns-in-Ok-clause-acts g c = on_ok_weaker c.hand_out.result
    (λ done. λ f. rw c.if-not-ok.false (done f (Reports (activity.Certification c.args.notarization.now)) (ap activity.Certification c.in-Ok.ensures))) c.hand_out.ensures.done
