use Rattle.std.proofs.Common.{arith}
use Rattle.voter_rounds.specs.Tracked.{Holds}
use Rattle.voter_rounds.proofs.tracked.Tracked.first_unreached.Goals as goal

pub returns-clause-exact : goal.returns-clause-exact
unfolding Holds
returns-clause-exact g c = λ f t k. let views = k.optimistic_views in omega (arith, views)

pub returns-clause-behind : goal.returns-clause-behind
unfolding Holds
returns-clause-behind g c = λ f t k u le fits. let views = k.optimistic_views in omega (arith, views)
