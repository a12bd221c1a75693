use Rattle.simplex_member.proofs.Placing.{all-placed}
use Rattle.simplex_member.proofs.laws.proposals_lie_in_their_views.Goals as goal

pub returns : goal.returns
returns g c = λ f s exact h all. all-placed g.S.Scheme f s (c.rounds_obey.ensures f exact) h all
