use Rattle.std.proofs.Common.{◌≤◌, ◌+◌, length}
use Rattle.std.specs.Prelude.{vec_len, vec_capacity}
use Rattle.std.specs.List.{All}
use Rattle.batcher_verifier.specs.History.{History, Setup}
use Rattle.simplex_batcher.specs.Run.{IsAsked}
use Rattle.simplex_batcher.specs.Rounds.{RoundKeeps}
use Rattle.simplex_batcher.proofs.Reaching.{Reached}
use Rattle.simplex_batcher.proofs.running.run.Given as goal

-- There is room for the answers that are left. Wherever a history leads to the round, the answers so far led on to
-- another that leads to the round now.
abbrev pub invariant-loop-call : goal.invariant-loop-call
invariant-loop-call g l =
    (vec_len l.answers + length l.call-iterator.rest.items ≤ vec_capacity l.answers)
    × ((s : Setup g.row.S.Denot) (first : History g.row.S.Denot g.row.D.Denot g.row.S-PublicKey.Denot g.row.S-Signature.Denot g.row.S-Certificate.Denot)
    → RoundKeeps g.D.PartialEq.eq g.S.Scheme g.S.Scheme.batchable s l.fn.round first → All (IsAsked g.S.Scheme.attests s) l.fn.calls.items
    → (h : History g.row.S.Denot g.row.D.Denot g.row.S-PublicKey.Denot g.row.S-Signature.Denot g.row.S-Certificate.Denot)
    × RoundKeeps g.D.PartialEq.eq g.S.Scheme g.S.Scheme.batchable s l.round h × Reached g.S.Scheme g.D.PartialEq.eq s first l.fn.calls.items l.answers.items h l.call-iterator.rest.items)
