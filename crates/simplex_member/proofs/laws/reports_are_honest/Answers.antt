use Rattle.simplex_member.proofs.Reporting.{report-honest}
use Rattle.simplex_member.proofs.laws.reports_are_honest.Goals as goal

pub returns : goal.returns
returns g c = λ f exact scheme m world w i correct a out. report-honest g.S.Scheme f scheme m world c.lives_obey.ensures (c.rounds_obey.ensures f exact) w i correct a out
