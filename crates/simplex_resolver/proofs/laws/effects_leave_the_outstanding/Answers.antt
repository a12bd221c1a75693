use Rattle.simplex_resolver.proofs.Leaving.{effects-leave}
use Rattle.simplex_resolver.proofs.laws.effects_leave_the_outstanding.Goals as goal

pub returns : goal.returns
returns c = effects-leave
