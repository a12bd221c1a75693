use Rattle.std.proofs.Common.{◌≡◌, ◌+◌, length}
use Rattle.batcher_rows.specs.Rows.{RowsStay}
use Rattle.batcher_rows.proofs.rows.Rows.reach.Given as goal

-- the rows so far, which have the same votes
abbrev pub invariant-loop : goal.invariant-loop
invariant-loop g l = (length l.self.rows.items ≡ l.reached + l.counter) × RowsStay l.fn.self l.self
