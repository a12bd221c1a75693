use Rattle.std.proofs.Common.{◌≡◌, [], take, true}
use Rattle.batcher_rows.specs.Rows.{votes_in}
use Rattle.batcher_rows.proofs.rows.Rows.first_verified.Given as goal

-- none in the rows so far
abbrev pub invariant-loop-row : goal.invariant-loop-row
invariant-loop-row g l = votes_in true l.fn.kind (take l.row-index l.fn.self.rows.items) ≡ []
