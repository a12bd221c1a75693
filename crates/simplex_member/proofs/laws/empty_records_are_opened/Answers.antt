use Rattle.simplex_member.proofs.Opening.{empty-goes, empty-opening}
use Rattle.simplex_member.proofs.laws.empty_records_are_opened.Goals as goal

pub returns : goal.returns
returns g c = λ f s now early. (empty-opening g.S.Scheme f s now, empty-goes g.S.Scheme f s now early)
