use Rattle.std.proofs.Common.{refl}
use Rattle.node_outbox.proofs.handing.own_plan.Goals as goal

pub returns-then-handoff : goal.returns-then-handoff
returns-then-handoff c = rw c.if-handoff.true refl

pub returns : goal.returns
returns c = rw c.if-handoff.false refl
