use Rattle.std.proofs.Common.{◌≡◌, ◌<◌, ◌≤◌, ℕ, false}
use Rattle.std.specs.List.{slice_get}
use Rattle.batcher_rows.specs.Rows.{blocks_at}
use Rattle.batcher_rows.proofs.rows.Rows.has_stranger_in_way.Given as goal

-- no stranger's row so far blocks the vote
abbrev pub invariant-loop-place : goal.invariant-loop-place
invariant-loop-place g l = (i : ℕ) → l.fn.self.members ≤ i → i < l.place → blocks_at l.fn.vote (slice_get l.fn.self.rows.items i) ≡ false
