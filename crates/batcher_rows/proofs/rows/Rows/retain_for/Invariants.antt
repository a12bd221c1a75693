use Rattle.std.proofs.Common.{◌≡◌}
use Rattle.std.specs.Prelude.{Some}
use Rattle.batcher_rows.specs.Votes.{is_candidate}
use Rattle.batcher_rows.specs.Rows.{each_cell, kept}
use Rattle.batcher_rows.proofs.Shuffling.{walked}
use Rattle.batcher_rows.proofs.rows.Rows.retain_for.Given as goal

-- the rows so far were changed
abbrev pub invariant-loop-row : goal.invariant-loop-row
invariant-loop-row g l = l.row-items ≡ walked (each_cell (kept (is_candidate g.D.PartialEq.eq (Some l.fn.proposal)))) l.row-index l.fn.self.rows.items
