use Rattle.node_outbox.specs.Handing.{one_more}
use Rattle.node_outbox.proofs.handing.hand_out.Goals as goal

pub returns-clause-done : goal.returns-clause-done
returns-clause-done g c = λ f deed is. rw c.in-Ok.ensures.items (one_more f c.args.out.now.items c.args.action deed is)
