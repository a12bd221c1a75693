use Rattle.simplex_member.proofs.Allowing.{begun-allowed}
use Rattle.simplex_member.proofs.Ballots.{made-lists}
use Rattle.simplex_member.proofs.laws.made_certificates_list_votes.Goals as goal

pub returns : goal.returns
returns g c = λ f s exact h points view kind batch x goes a made b here. made-lists g.S.Scheme f s (c.rounds_obey.ensures f exact) h (begun-allowed g.S.Scheme f s points h goes) view kind batch a x made b here
