use Rattle.node_votes.proofs.Silent.{quiet-stays, silent-stays}
use Rattle.node_votes.proofs.laws.silent_points_leave_votes.Goals as goal

pub returns-clause-quiet : goal.returns-clause-quiet
returns-clause-quiet g c = quiet-stays g.S.Scheme g.D.PartialEq.eq

pub returns-clause-silent : goal.returns-clause-silent
returns-clause-silent g c = silent-stays g.S.Scheme g.D.PartialEq.eq
