use Rattle.std.proofs.Common.{sym, ◌∙◌}
use Rattle.simplex_rules.proofs.Rounds.{choice_in-first, choice_in-second}
use Rattle.simplex_rules.proofs.choices.Choices.search.Goals as goal

pub returns-in-Some : goal.returns-in-Some
returns-in-Some g c = rw (← c.self.view_is) (sym (choice_in-first c.self.inside.ascending.items c.self.inside.late.entries c.args.round.now c.in-Some.choice.now (sym (rw c.deref.ensures.value at c.in-Some.ensures))))

pub returns-in-None : goal.returns-in-None
returns-in-None g c = rw (← c.self.view_is) (c.get.ensures.value ∙ sym (choice_in-second c.self.inside.ascending.items c.self.inside.late.entries c.args.round.now (sym (rw c.deref.ensures.value at c.in-None.ensures))))
