use Rattle.std.proofs.Common.{sym, ap, ◌∙◌}
use Rattle.std.specs.Ordering.{is_lt}
use Rattle.simplex_rules.proofs.Rounds.{Ascend-push_above}
use Rattle.simplex_rules.proofs.choices.is_above.Goals as goal

pub returns-in-Some : goal.returns-in-Some
returns-in-Some g c = λ choice above. Ascend-push_above c.args.ascending.now c.in-Some.field-0.now (c.args.round.now, choice) c.requires c.in-Some.ensures.value (sym (c.is_lt.ensures ∙ ap is_lt c.cmp.ensures) ∙ above)
