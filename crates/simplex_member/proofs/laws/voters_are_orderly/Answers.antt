use Rattle.simplex_member.proofs.Allowing.{begun-allowed}
use Rattle.simplex_member.proofs.Recordable.{orderly-any}
use Rattle.simplex_member.proofs.laws.voters_are_orderly.Goals as goal

pub returns : goal.returns
returns g c = λ f s h points goes some. orderly-any g.S.Scheme f s h (begun-allowed g.S.Scheme f s points h goes) some
