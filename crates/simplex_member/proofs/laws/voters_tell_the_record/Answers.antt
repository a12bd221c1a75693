use Rattle.simplex_member.proofs.Allowing.{begun-allowed}
use Rattle.simplex_member.proofs.Telling.{tells-record}
use Rattle.simplex_member.proofs.laws.voters_tell_the_record.Goals as goal

pub returns : goal.returns
returns g c = λ f s h points goes. tells-record g.S.Scheme f s h (begun-allowed g.S.Scheme f s points h goes)
