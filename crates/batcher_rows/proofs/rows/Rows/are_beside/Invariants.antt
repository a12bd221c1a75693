use Rattle.std.proofs.Common.{◌≡◌, take, true}
use Rattle.std.specs.List.{All}
use Rattle.batcher_rows.specs.Votes.{is_candidate, vote_proposal}
use Rattle.batcher_rows.specs.Rows.{votes_in}
use Rattle.batcher_rows.proofs.rows.Rows.are_beside.Given as goal

-- all in the rows so far
abbrev pub invariant-loop-row : goal.invariant-loop-row
invariant-loop-row g l = All (λ v. is_candidate g.D.PartialEq.eq (vote_proposal l.fn.first) v ≡ true) (votes_in true l.fn.kind (take l.row-index l.fn.self.rows.items))
