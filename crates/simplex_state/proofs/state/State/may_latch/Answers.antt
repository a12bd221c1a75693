use Rattle.simplex_state.specs.State.{Keeps}
use Rattle.simplex_state.proofs.Stalling.{behind_never, loud_counts, silent_counts, unknown_never}
use Rattle.simplex_state.proofs.state.State.may_latch.Goals as goal

pub returns-then-lt : goal.returns-then-lt
unfolding Keeps
returns-then-lt g c = λ s h k. behind_never s h c.args.view c.current_view.result c.args.reason c.lt.result c.lt.ensures c.if-lt.true (c.current_view.ensures s h k.views)

pub returns-in_default : goal.returns-in_default
unfolding Keeps
returns-in_default g c = λ s h k. unknown_never s h c.args.view c.args.reason (c.in_default.ensures.value s h k.views)

pub returns-then-ne : goal.returns-then-ne
unfolding Keeps
returns-then-ne g c = λ s h k.
    loud_counts s h c.args.view c.current_view.result c.args.reason c.lt.result c.ne.result c.lt.ensures c.if-lt.false (c.current_view.ensures s h k.views) (c.in-Some.ensures.value s h k.views).0 c.ne.ensures c.if-ne.true

pub returns : goal.returns
unfolding Keeps
returns g c = λ s h k.
    let round = c.in-Some.ensures.value s h k.views in
    silent_counts s h c.args.view c.current_view.result c.args.reason c.lt.result c.ne.result c.has_unequivocated_proposal.result c.lt.ensures c.if-lt.false (c.current_view.ensures s h k.views) round.0 c.ne.ensures c.if-ne.false
    (c.has_unequivocated_proposal.ensures _ _ _ round.1)
