use Rattle.simplex_member.proofs.Going.{goes-lawful}
use Rattle.simplex_member.proofs.laws.records_stay_lawful.Goals as goal

pub returns : goal.returns
returns g c = λ f s h end points goes lawful. goes-lawful g.S.Scheme f s c.records_obey.ensures h points end goes lawful
