use Rattle.simplex_member.proofs.Above.{none-below}
use Rattle.simplex_member.proofs.laws.none_is_due_below_the_floor.Goals as goal

pub returns : goal.returns
returns g c = λ f s h v all due. none-below g.S.Scheme f s c.what_is_known_is_recorded.ensures h v all due
