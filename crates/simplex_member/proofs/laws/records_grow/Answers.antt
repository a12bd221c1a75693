use Rattle.simplex_member.proofs.Going.{goes-grow}
use Rattle.simplex_member.proofs.laws.records_grow.Goals as goal

pub returns : goal.returns
returns g c = λ f s h end points goes. goes-grow g.S.Scheme f s h points end goes
