use Rattle.simplex_member.proofs.Allowing.{begun-allowed}
use Rattle.simplex_member.proofs.Binding.{due-bound}
use Rattle.simplex_member.proofs.laws.due_is_bound.Goals as goal

pub returns : goal.returns
returns g c = λ f s exact h points view p goes due holds. due-bound g.S.Scheme f s (c.rounds_obey.ensures f exact) h (begun-allowed g.S.Scheme f s points h goes) view p due holds
