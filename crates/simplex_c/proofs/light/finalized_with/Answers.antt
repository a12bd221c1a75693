use Rattle.simplex_c.proofs.Unfit.{told_one_of_four}
use Rattle.simplex_c.proofs.light.finalized_with.Goals as goal

pub returns-in-Ok-clause-finalized : goal.returns-in-Ok-clause-finalized
returns-in-Ok-clause-finalized c = λ done. (c.in-Ok.settings, (c.in-Ok.ensures.form, c.in-Ok.ensures.said, c.in-Ok.ensures.good), c.finalized_by.ensures.finalized done)

pub returns-in-Ok-clause-room : goal.returns-in-Ok-clause-room
returns-in-Ok-clause-room c = λ room. (c.in-Ok.settings, (c.in-Ok.ensures.form, c.in-Ok.ensures.said, c.in-Ok.ensures.good), c.finalized_by.ensures.room room)

pub returns-in-Ok-clause-broken : goal.returns-in-Ok-clause-broken
returns-in-Ok-clause-broken c = λ done room memory number fault form. (c.in-Ok.settings, (c.in-Ok.ensures.form, c.in-Ok.ensures.said, c.in-Ok.ensures.good), c.finalized_by.ensures.broken done room memory)

pub returns-in-Err-clause-broken : goal.returns-in-Err-clause-broken
returns-in-Err-clause-broken c = λ done room memory number fault form. absurd (told_one_of_four c.in-Err.why c.tell_unfit.result c.tell_unfit.ensures.status memory number fault form)
