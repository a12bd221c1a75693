use Rattle.voter_history.specs.History.{current}
use Rattle.simplex_state.specs.State.{Keeps}
use Rattle.simplex_state.proofs.Casting.{is_there, not_at_start, not_elsewhere}
use Rattle.simplex_state.proofs.state.State.is_current.Goals as goal

pub returns-then-is_zero : goal.returns-then-is_zero
returns-then-is_zero g c = λ s h k. not_at_start c.args.view _ c.is_zero.result _ c.is_zero.ensures c.if-is_zero.true

pub returns-then-ne : goal.returns-then-ne
unfolding Keeps
returns-then-ne g c = λ s h k. not_elsewhere c.args.view c.current_view.result (current s h) c.ne.result _ c.ne.ensures c.if-ne.true (c.current_view.ensures s h k.views)

pub returns : goal.returns
unfolding Keeps
returns g c = λ s h k.
    is_there c.args.view c.current_view.result (current s h) c.lookahead.result.length s.length c.is_zero.result c.ne.result c.has_room.result c.is_zero.ensures c.if-is_zero.false c.ne.ensures c.if-ne.false (c.current_view.ensures s h k.views) c.has_room.ensures
    (c.lookahead.ensures.length s h k.views)
