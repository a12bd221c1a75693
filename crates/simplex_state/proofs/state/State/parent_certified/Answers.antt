use Rattle.voter_views.specs.ShowsKnown.{at}
use Rattle.simplex_state.specs.State.{Keeps}
use Rattle.simplex_state.proofs.state.State.parent_certified.Goals as goal

pub returns : goal.returns
unfolding Keeps
returns g c = λ s h k. c.is_explicit_with.ensures _ _ (at s h k.views)
