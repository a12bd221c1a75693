use Rattle.node_record.proofs.Verdicts.{request_stands}
use Rattle.node_record.proofs.tables.Tables.awaits.Goals as goal

pub returns-clause-asked : goal.returns-clause-asked
returns-clause-asked g c = λ low h k. rw c.contains.ensures (k.verdicts c.args.view)

pub returns-clause-awaited : goal.returns-clause-awaited
returns-clause-awaited g c = λ s h k none. rw c.contains.ensures (request_stands s h c.args.view _ (k.verdicts c.args.view) none)
