use Rattle.simplex_c.proofs.Holding.{told_by}
use Rattle.simplex_c.proofs.node.voumlis_proved_node_step.Goals as goal

pub returns-clause-answered : goal.returns-clause-answered
returns-clause-answered c = told_by _ _ c.number.ensures _ _ _ _ _ c.stepped.ensures.answered
