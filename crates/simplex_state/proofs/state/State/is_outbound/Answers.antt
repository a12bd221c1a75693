use Rattle.simplex_state.specs.State.{Keeps}
use Rattle.simplex_state.proofs.state.State.is_outbound.Goals as goal

pub returns : goal.returns
unfolding Keeps
returns g c = λ s h k. rw (c.lookahead.ensures.length s h k.views, c.lookahead.ensures.optimistic_views s h k.views, c.current_view-current.ensures s h k.views) at c.admits_outbound.ensures
