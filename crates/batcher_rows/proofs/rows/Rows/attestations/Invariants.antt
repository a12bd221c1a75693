use Rattle.std.proofs.Common.{◌≡◌, map, take}
use Rattle.batcher_rows.specs.Votes.{vote_attestation}
use Rattle.batcher_rows.specs.Rows.{votes_in}
use Rattle.batcher_rows.proofs.rows.Rows.attestations.Given as goal

-- those of the rows so far
abbrev pub invariant-loop-row : goal.invariant-loop-row
invariant-loop-row g l = l.attestations.items ≡ map vote_attestation (votes_in l.fn.verified l.fn.kind (take l.row-index l.fn.self.rows.items))
