use Rattle.simplex_member.proofs.Binding.{requests-tracked}
use Rattle.simplex_member.proofs.laws.requests_are_tracked.Goals as goal

pub returns : goal.returns
returns g c = λ f s exact h all. requests-tracked g.S.Scheme f s (c.rounds_obey.ensures f exact) h all
