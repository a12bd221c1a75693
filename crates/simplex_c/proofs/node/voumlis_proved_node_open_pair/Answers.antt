use Rattle.std.proofs.Common.{◌∙◌, sym}
use Rattle.simplex_c.proofs.Numbers.{done_by}
use Rattle.simplex_c.proofs.node.voumlis_proved_node_open_pair.Goals as goal

pub returns-clause-begun : goal.returns-clause-begun
returns-clause-begun c = λ is. c.opened_pair.ensures.begun (done_by c.opened_pair.result (sym c.number-2.ensures ∙ is))

pub returns-clause-looked : goal.returns-clause-looked
returns-clause-looked c = λ is. c.opened_pair.ensures.looked (done_by c.opened_pair.result (sym c.number-2.ensures ∙ is))
