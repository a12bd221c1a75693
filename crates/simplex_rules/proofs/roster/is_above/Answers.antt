use Rattle.std.proofs.Common.{sym, ap, ◌∙◌}
use Rattle.std.specs.Ordering.{is_lt}
use Rattle.simplex_rules.proofs.Standing.{sorted-alone, sorted-push_above}
use Rattle.simplex_rules.proofs.roster.is_above.Goals as goal

pub returns-in-Some : goal.returns-in-Some
returns-in-Some c = λ above. sorted-push_above c.args.ascending.now c.in-Some.last.now c.args.suspect.now c.requires c.in-Some.ensures.value (sym (c.is_lt.ensures ∙ ap is_lt c.cmp.ensures) ∙ above)

pub returns-in-None : goal.returns-in-None
returns-in-None c = λ _. sorted-alone c.args.ascending.now c.args.suspect.now c.in-None.ensures.value
