use Rattle.node_record.proofs.Pending.{AreKept}
use Rattle.node_record.proofs.tables.pending_of.Given as goal

-- of the asks gone over those are kept that stand until a finalization
abbrev pub invariant-loop-asked : goal.invariant-loop-asked
invariant-loop-asked l = AreKept l.yielded l.pending.items
