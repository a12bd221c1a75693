use Rattle.std.proofs.Common.{sym}
use Rattle.simplex_rules.proofs.Rounds.{at_last, choice_in-first, tied}
use Rattle.simplex_rules.proofs.choices.Choices.get.Goals as goal

-- the last round of those that came in order
pub returns-in-Some : goal.returns-in-Some
returns-in-Some g c =
    let found = at_last c.self.inside.ascending.items c.args.round.now c.in-Some.field-0.now c.self.invariant (rw c.deref.ensures.value at c.in-Some.ensures.value) (tied c.in-Some.field-0.now.0 c.args.round.now (sym c.if-eq.ensures)) in
    rw (← c.self.view_is) (sym (choice_in-first c.self.inside.ascending.items c.self.inside.late.entries c.args.round.now c.in-Some.field-0.now.1 found))
