use Rattle.std.proofs.Common.{refl, false}
use Rattle.batcher_rows.proofs.Holding.{new-kind}
use Rattle.batcher_rows.proofs.rows.Rows.new.Goals as goal

pub returns-clause-kinds : goal.returns-clause-kinds
returns-clause-kinds g c = new-kind (record { members = c.args.members; rows = c.new.result; notarizes = record { waiting = 0; verified = 0; complete = false }; nullifies = record { waiting = 0; verified = 0; complete = false }; finalizes = record { waiting = 0; verified = 0; complete = false } }) refl refl refl c.new.ensures.items
