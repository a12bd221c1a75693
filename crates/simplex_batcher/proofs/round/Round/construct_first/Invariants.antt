use Rattle.std.proofs.Common.{◌≡◌, drop}
use Rattle.std.specs.Prelude.{find}
use Rattle.batcher_assembly.specs.KindOrder.{in_turn}
use Rattle.batcher_verifier.specs.History.{is_due, next_kind}
use Rattle.simplex_batcher.specs.Rounds.{AtEach, RoundKeeps}
use Rattle.simplex_batcher.proofs.round.Round.construct_first.Given as goal

-- nothing happened, and of the kinds seen so far no construction is due
abbrev pub invariant-loop-kind : goal.invariant-loop-kind
invariant-loop-kind g l =
    AtEach g.D.PartialEq.eq g.S.Scheme g.S.Scheme.batchable l.fn.self (λ s h.
    RoundKeeps g.D.PartialEq.eq g.S.Scheme g.S.Scheme.batchable s l.self h
    × (next_kind g.D.PartialEq.eq s h ≡ find (λ kind. is_due g.D.PartialEq.eq s kind h) (drop l.kind-index in_turn)))
