use Rattle.std.proofs.Common.{◌≡◌, not}
use Rattle.batcher_rows.specs.Votes.{is_kind, vote_kind}
use Rattle.batcher_rows.specs.Rows.{each_cell, kept}
use Rattle.batcher_rows.proofs.Shuffling.{walked}
use Rattle.batcher_rows.proofs.rows.Rows.finish.Given as goal

-- the rows so far were changed
abbrev pub invariant-loop-row : goal.invariant-loop-row
invariant-loop-row g l = l.row-items ≡ walked (each_cell (kept (λ v. not (is_kind l.fn.kind (vote_kind v))))) l.row-index l.fn.self.rows.items
