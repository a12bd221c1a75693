use Rattle.std.proofs.Common.{◌≡◌}
use Rattle.std.specs.List.Sorted.{IsStrictlyIncreasing}
use Rattle.batcher_rows.specs.Rows.{each_cell, settled}
use Rattle.batcher_rows.proofs.Shuffling.{walked}
use Rattle.batcher_rows.proofs.rows.Rows.settle.Given as goal

-- the rows so far were changed
abbrev pub invariant-loop-row : goal.invariant-loop-row
invariant-loop-row g l = IsStrictlyIncreasing l.fn.failing → l.row-items ≡ walked (each_cell (settled l.fn.kind l.fn.failing)) l.row-index l.fn.self.rows.items
