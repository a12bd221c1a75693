use Rattle.simplex_rules.proofs.Places.{choice_of}
use Rattle.simplex_rules.proofs.Rounds.{Extends-pushed, own-pushed, Extends-inserted, own-inserted}
use Rattle.simplex_rules.proofs.choices.Choices.choose_first.Goals as goal

pub invariant_of-self : goal.invariant_of-self
invariant_of-self g c = rw c.in_ok-push.ensures.items (rw c.deref.ensures.value at (c.is_above.ensures (choice_of c.args.proposal.now) c.if-is_above.true))

pub invariant_of-self-in_err-push : goal.invariant_of-self-in_err-push
invariant_of-self-in_err-push g c = rw c.in_err-push.ensures.items c.self.invariant

-- the round is above all that came in order
pub returns-in_ok-push-clause-extends : goal.returns-in_ok-push-clause-extends
returns-in_ok-push-clause-extends g c = λ r d before. rw c.in_ok-push.ensures.items (Extends-pushed c.self.inside.ascending.items c.self.inside.late.entries _ (rw (← c.self.view_is) at c.requires.none) r d (rw (← c.self.view_is) at before))

pub returns-in_ok-push-clause-own : goal.returns-in_ok-push-clause-own
returns-in_ok-push-clause-own g c = rw c.in_ok-push.ensures.items (own-pushed c.self.inside.ascending.items c.self.inside.late.entries _ (rw (← c.self.view_is) at c.requires.none))

-- the round comes late
pub returns-in_ok-insert-clause-extends : goal.returns-in_ok-insert-clause-extends
returns-in_ok-insert-clause-extends g c = λ r d before. Extends-inserted c.self.inside.ascending.items c.self.inside.late c.insert.new.self c.args.proposal.now.round _ (rw (← c.self.view_is) at c.requires.none) c.in_ok-insert.ensures.updates r d (rw (← c.self.view_is) at before)

pub returns-in_ok-insert-clause-own : goal.returns-in_ok-insert-clause-own
returns-in_ok-insert-clause-own g c = own-inserted c.self.inside.ascending.items c.self.inside.late c.insert.new.self c.args.proposal.now.round _ (rw (← c.self.view_is) at c.requires.none) c.in_ok-insert.ensures.updates
