use Rattle.std.proofs.Common.{◌∙◌, sym}
use Rattle.simplex_c.proofs.Numbers.{done_by}
use Rattle.simplex_c.proofs.node.voumlis_proved_node_open.Goals as goal

pub returns-clause-begun : goal.returns-clause-begun
returns-clause-begun c = λ is. c.opened.ensures.begun (done_by c.opened.result (sym c.number-2.ensures ∙ is))
