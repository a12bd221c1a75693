use Rattle.simplex_member.proofs.Chaining.{by-world, has-lived}
use Rattle.simplex_member.proofs.Honest.{recorded-honest}
use Rattle.simplex_member.proofs.Living.{world-of-lives}
use Rattle.simplex_member.proofs.laws.finalized_views_lie_on_one_chain.Goals as goal

pub returns : goal.returns
returns g c = λ f exact scheme m world leader w most schedule.
    let is = world-of-lives g.S.Scheme f c.lives_obey.ensures scheme m world w most (recorded-honest g.S.Scheme f scheme m world (c.rounds_obey.ensures f exact) w) in
    c.chain.ensures scheme (λ i. (m.setup i).voter.scheme) world leader is (λ i correct.
    by-world g.S.Scheme f scheme m world leader schedule w i correct (c.lives_stand_on_ground.ensures.left f exact m i (world.recorded i) (has-lived g.S.Scheme f scheme m world leader schedule w i correct)))
