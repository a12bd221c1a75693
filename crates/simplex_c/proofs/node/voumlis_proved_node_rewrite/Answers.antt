use Rattle.simplex_c.proofs.Holding.{told_by}
use Rattle.simplex_c.proofs.node.voumlis_proved_node_rewrite.Goals as goal

pub returns-clause-shortened : goal.returns-clause-shortened
returns-clause-shortened c = told_by _ _ c.number.ensures _ _ _ _ _ c.rewritten.ensures.shortened
