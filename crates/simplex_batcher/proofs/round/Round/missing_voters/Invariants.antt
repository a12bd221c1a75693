use Rattle.std.proofs.Common.{◌≡◌, filter}
use Rattle.std.specs.List.{range_with_len}
use Rattle.simplex_batcher.specs.Queries.{is_missing_voter}
use Rattle.simplex_batcher.specs.Rounds.{AtEach}
use Rattle.simplex_batcher.proofs.round.Round.missing_voters.Given as goal

-- those missing among the members seen so far
abbrev pub invariant-loop-index : goal.invariant-loop-index
invariant-loop-index g l = AtEach g.D.PartialEq.eq g.S.Scheme g.S.Scheme.batchable l.fn.self (λ s h. l.missing.items ≡ filter (is_missing_voter g.D.PartialEq.eq h l.fn.proposal) (range_with_len 0 l.index))
