use Rattle.std.proofs.Common.{refl}
use Rattle.node_record.proofs.tables.Tables.asks_again.Goals as goal

pub returns-in-Once : goal.returns-in-Once
returns-in-Once g c = λ low h k. rw c.in-Once.is refl

pub returns-in-WithNullify : goal.returns-in-WithNullify
returns-in-WithNullify g c = λ low h k. rw c.in-WithNullify.is k.repeated
