use Rattle.std.proofs.Common.{◌≡◌, length, take}
use Rattle.batcher_rows.specs.Rows.{votes_in}
use Rattle.batcher_rows.proofs.rows.Rows.number.Given as goal

-- those in the rows so far
abbrev pub invariant-loop-row : goal.invariant-loop-row
invariant-loop-row g l = l.number ≡ length (votes_in l.fn.verified l.fn.kind (take l.row-index l.fn.self.rows.items))
