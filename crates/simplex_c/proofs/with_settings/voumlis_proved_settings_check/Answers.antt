use Rattle.std.proofs.Common.{◌∙◌, sym}
use Rattle.simplex_c.proofs.Numbers.{done_by}
use Rattle.simplex_c.proofs.with_settings.voumlis_proved_settings_check.Goals as goal

pub returns-clause-good : goal.returns-clause-good
returns-clause-good c = λ is. c.checked.ensures.good (done_by c.checked.result (sym c.number.ensures ∙ is))
