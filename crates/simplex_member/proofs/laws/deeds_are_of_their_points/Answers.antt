use Rattle.simplex_member.proofs.Doing.{deeds-are}
use Rattle.simplex_member.proofs.laws.deeds_are_of_their_points.Goals as goal

pub returns : goal.returns
returns g c = λ f s h p d here. deeds-are g.S.Scheme f s h p d here
