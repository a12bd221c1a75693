use Rattle.simplex_c.proofs.Unfit.{told_one_of_four}
use Rattle.simplex_c.proofs.light.certified_with.Goals as goal

pub returns-in-Ok-clause-certified : goal.returns-in-Ok-clause-certified
returns-in-Ok-clause-certified c = λ done. (c.in-Ok.settings, (c.in-Ok.ensures.form, c.in-Ok.ensures.said, c.in-Ok.ensures.good), c.certified_by.ensures.certified done)

pub returns-in-Ok-clause-uncertified : goal.returns-in-Ok-clause-uncertified
returns-in-Ok-clause-uncertified c = λ done memory number fault form. (c.in-Ok.settings, (c.in-Ok.ensures.form, c.in-Ok.ensures.said, c.in-Ok.ensures.good), c.certified_by.ensures.uncertified done)

pub returns-in-Err-clause-uncertified : goal.returns-in-Err-clause-uncertified
returns-in-Err-clause-uncertified c = λ done memory number fault form. absurd (told_one_of_four c.in-Err.why c.tell_unfit.result c.tell_unfit.ensures.status memory number fault form)
