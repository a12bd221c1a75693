use Rattle.simplex_c.proofs.with_settings.checked.Goals as goal

pub returns-in-Ok-clause-good : goal.returns-in-Ok-clause-good
returns-in-Ok-clause-good c = λ done. (c.in-Ok._settings, (c.in-Ok.ensures.form, c.in-Ok.ensures.said, c.in-Ok.ensures.good))
