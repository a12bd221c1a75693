use Rattle.std.proofs.Common.{◌∙◌, sym}
use Rattle.simplex_c.proofs.Numbers.{done_by, not_asked, torn_by}
use Rattle.simplex_c.proofs.with_settings.voumlis_proved_node_open_with.Goals as goal

pub returns-clause-begun : goal.returns-clause-begun
returns-clause-begun c = λ is. c.opened.ensures.begun (done_by c.opened.result (sym c.number-2.ensures ∙ is))

pub returns-clause-looked : goal.returns-clause-looked
returns-clause-looked c = λ is. c.opened.ensures.looked (done_by c.opened.result (sym c.number-2.ensures ∙ is))

pub returns-clause-torn : goal.returns-clause-torn
returns-clause-torn c = λ is. let torn = c.opened.ensures.torn (torn_by c.opened.result (sym c.number-2.ensures ∙ is)) in (not_asked c.args.cuts torn.0, torn.1)
