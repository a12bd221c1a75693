use Rattle.simplex_member.proofs.Untouched.{nothing-else-changes}
use Rattle.simplex_member.proofs.repairing.asks_change_nothing_else.Goals as goal

pub returns : goal.returns
returns g c = λ f s. nothing-else-changes g.S.Scheme f s
