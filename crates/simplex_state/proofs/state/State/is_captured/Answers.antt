use Rattle.voter_views.specs.ShowsKnown.{at}
use Rattle.simplex_state.specs.State.{Keeps}
use Rattle.simplex_state.proofs.Entries.{first_holds, second_holds}
use Rattle.simplex_state.proofs.state.State.is_captured.Goals as goal

pub returns-then-prefers : goal.returns-then-prefers
unfolding Keeps
returns-then-prefers g c = λ s h k. first_holds c.prefers.result _ _ (c.prefers.ensures _ _ (at s h k.views)) c.if-prefers.true

pub returns : goal.returns
unfolding Keeps
returns g c = λ s h k. second_holds c.prefers.result c.allows_parent.result _ _ (c.prefers.ensures _ _ (at s h k.views)) c.if-prefers.false (c.allows_parent.ensures _ _ (at s h k.views))
