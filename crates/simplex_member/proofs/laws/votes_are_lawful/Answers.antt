use Rattle.simplex_member.proofs.Allowing.{begun-allowed}
use Rattle.simplex_member.proofs.Ballots.{votes-lawful}
use Rattle.simplex_member.proofs.laws.votes_are_lawful.Goals as goal

pub returns : goal.returns
returns g c = λ f s exact h points view goes some. votes-lawful g.S.Scheme f s (c.rounds_obey.ensures f exact) h (begun-allowed g.S.Scheme f s points h goes) view some
