use Rattle.std.proofs.Common.{◌≡◌, List, [], ◌∷◌, Option, None, Some, refl, sym, subst, if◌then◌else◌}
use Rattle.std.specs.Prelude.{MatchOption, is_none, is_some}
use Rattle.types_core.specs.declared.proposal.Proposal.{Proposal}
use Rattle.types_terms.specs.declared.kind.Kind.{Kind}
use Rattle.batcher_verifier.specs.History.{Forwarded, History, forwardable, next_kind}
use Rattle.batcher_verifier.specs.ConstructionResult.{IsBatch, after, after_construction}
use Rattle.simplex_batcher.specs.Rounds.{RoundKeeps}
use Rattle.node_votes.proofs.Doing.{made-batch, none-due, still-here}
use Rattle.node_votes.proofs.rounds.due_of.Goals as goal

pub returns-in-Ok-Some-clause-done : goal.returns-in-Ok-Some-clause-done
returns-in-Ok-Some-clause-done g c = λ s h k.
    let still = still-here g.S.Scheme g.D.PartialEq.eq s h c.args.round.now c.args.me c.try_forward_proposal.new.self c.in-None.ensures.exact c.in-None.ensures.keeps k in
    made-batch g.S.Scheme g.D.PartialEq.eq s h c.try_construct.new.self c.in-Ok-Some.batch (next_kind g.D.PartialEq.eq s h)
    ((rw c.in-Ok-Some.field-0-is at c.in-Ok-Some.ensures.batch) s h still)
    ((rw c.in-Ok-Some.field-0-is at c.in-Ok-Some.ensures.ok) s h still)

pub returns-in-Ok-Some-clause-readable : goal.returns-in-Ok-Some-clause-readable
returns-in-Ok-Some-clause-readable g c = λ s h k.
    let still = still-here g.S.Scheme g.D.PartialEq.eq s h c.args.round.now c.args.me c.try_forward_proposal.new.self c.in-None.ensures.exact c.in-None.ensures.keeps k in
    (rw c.in-Ok-Some.field-0-is at c.in-Ok-Some.ensures.readable) s h still

pub returns-in-Ok-None-clause-done : goal.returns-in-Ok-None-clause-done
returns-in-Ok-None-clause-done g c = λ s h k.
    let still = still-here g.S.Scheme g.D.PartialEq.eq s h c.args.round.now c.args.me c.try_forward_proposal.new.self c.in-None.ensures.exact c.in-None.ensures.keeps k in
    let none : next_kind g.D.PartialEq.eq s h ≡ None = none-due (next_kind g.D.PartialEq.eq s h) (c.in-Ok-None.ensures.none s h still) c.in-Ok-None.field-0-is in
    (sym (c.in-None.ensures.exact s h k), none, rw none at ((rw c.in-Ok-None.field-0-is at c.in-Ok-None.ensures.ok) s h still))
