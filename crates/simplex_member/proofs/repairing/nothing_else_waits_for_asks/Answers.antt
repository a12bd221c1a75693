use Rattle.simplex_member.proofs.Asks.{nothing-else-waits}
use Rattle.simplex_member.proofs.repairing.nothing_else_waits_for_asks.Goals as goal

pub returns : goal.returns
returns g c = λ f s. nothing-else-waits g.S.Scheme f s
