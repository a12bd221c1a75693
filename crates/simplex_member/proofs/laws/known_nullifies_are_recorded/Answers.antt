use Rattle.simplex_member.proofs.Nullified.{known-nullified}
use Rattle.simplex_member.proofs.laws.known_nullifies_are_recorded.Goals as goal

pub returns : goal.returns
returns g c = λ f s h view all is. known-nullified g.S.Scheme f s h all view is
