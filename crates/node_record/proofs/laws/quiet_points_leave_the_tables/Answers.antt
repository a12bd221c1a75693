use Rattle.node_record.proofs.Quiet.{stays_quiet}
use Rattle.node_record.proofs.laws.quiet_points_leave_the_tables.Goals as goal

pub returns : goal.returns
returns g c = λ low tables h p. stays_quiet low tables h p
