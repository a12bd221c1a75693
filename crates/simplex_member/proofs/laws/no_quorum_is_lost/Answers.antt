use Rattle.simplex_member.proofs.Allowing.{begun-allowed}
use Rattle.simplex_member.proofs.Ballots.{no-quorum-lost}
use Rattle.simplex_member.proofs.laws.no_quorum_is_lost.Goals as goal

pub returns : goal.returns
returns g c = λ f s exact h points goes none view is. no-quorum-lost g.S.Scheme f s (c.rounds_obey.ensures f exact) h (begun-allowed g.S.Scheme f s points h goes) none view is
