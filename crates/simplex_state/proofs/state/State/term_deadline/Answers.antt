use Rattle.std.proofs.Common.{refl}
use Rattle.simplex_state.specs.State.{Keeps}
use Rattle.simplex_state.proofs.Stalling.{stalls_at, stalls_never, stalls_unknown}
use Rattle.simplex_state.proofs.state.State.term_deadline.Goals as goal

pub returns-in_default : goal.returns-in_default
returns-in_default g c = λ s h k. stalls_never s h _ refl (c.in_default.ensures s h k)

pub returns-in-Some-round : goal.returns-in-Some-round
unfolding Keeps
returns-in-Some-round g c = λ s h k. stalls_at s h c.in-Some.oldest c.stall_deadline.result (c.in-Some.ensures s h k) (c.stall_deadline.ensures _ _ _ (c.in-Some-round.ensures.value s h k.views).1)

pub returns-in-None : goal.returns-in-None
unfolding Keeps
returns-in-None g c = λ s h k. stalls_unknown s h c.in-Some.oldest (c.in-Some.ensures s h k) (c.in-None.ensures.value s h k.views).0
