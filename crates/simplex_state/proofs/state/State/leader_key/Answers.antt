use Rattle.std.proofs.Common.{sym}
use Rattle.simplex_state.specs.State.{Keeps}
use Rattle.simplex_state.proofs.state.State.leader_key.Goals as goal

pub returns-in_default : goal.returns-in_default
unfolding Keeps
returns-in_default g c = λ s h k. (c.in_default.ensures.value s h k.views).1

pub returns-in_default-leader : goal.returns-in_default-leader
unfolding Keeps
returns-in_default-leader g c = λ s h k. sym (c.in_default-leader.ensures.index _ _ _ (c.in-Some.ensures.value s h k.views).1)

pub returns : goal.returns
unfolding Keeps
returns g c = λ s h k.
    let round = c.in-Some.ensures.value s h k.views in
    let led = c.in-Some-leader.ensures.key _ _ _ round.1 in
    record { index = c.in-Some-leader.leader.now.idx; known = led.0; names = led.1 }
