use Rattle.simplex_member.proofs.Awaiting.{judgeable}
use Rattle.simplex_member.proofs.laws.awaited_verdicts_may_be_taken.Goals as goal

pub returns : goal.returns
returns g c = λ f s h r all epoch awaited. judgeable g.S.Scheme f s c.what_is_known_is_recorded.ensures c.what_is_recorded_is_known.ensures h r all epoch awaited
