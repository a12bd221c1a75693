use Rattle.std.proofs.Common.{ap, sym}
use Rattle.node_votes.specs.Standing.{Common, setup_now}
use Rattle.node_votes.proofs.Changing.{some-is}
use Rattle.node_votes.proofs.Known.{stands-here}
use Rattle.node_votes.proofs.Opening.{known-done, known-rests, none-rests, same-still}
use Rattle.node_votes.proofs.rounds.Rounds.advance.Goals as goal

pub returns-in-Ok-Some-clause-done : goal.returns-in-Ok-Some-clause-done
returns-in-Ok-Some-clause-done g c = λ s up happened k touched. known-done g.S.Scheme g.D.PartialEq.eq s c.args.self.now up happened c.args.view k c.in-Some.round.now c.due_of.new.round c.in-Some.ensures.value (c.get_mut.follows.lender c.due_of.new.round) ((c.get_mut.follows.holds c.due_of.new.round).3 (some-is c.in-Some.ensures.value)) touched c.args.self.now.me c.in-Ok-Some.due
    (ap (λ (z : Common g.row.S.Denot). z.me) k.shared) ((rw c.in-Ok-Some.field-0-is at c.in-Ok-Some.ensures.done) (setup_now g.S.Scheme s up c.args.view 0) (happened c.args.view) (stands-here g.S.Scheme g.D.PartialEq.eq s c.args.self.now up happened c.args.view k 0 c.in-Some.round.now c.in-Some.ensures.value))

pub returns-in-Ok-Some-clause-readable : goal.returns-in-Ok-Some-clause-readable
returns-in-Ok-Some-clause-readable g c = λ s up happened k.
    (rw c.in-Ok-Some.field-0-is at c.in-Ok-Some.ensures.readable) (setup_now g.S.Scheme s up c.args.view 0) (happened c.args.view) (stands-here g.S.Scheme g.D.PartialEq.eq s c.args.self.now up happened c.args.view k 0 c.in-Some.round.now c.in-Some.ensures.value)

pub returns-in-Ok-None-clause-done : goal.returns-in-Ok-None-clause-done
returns-in-Ok-None-clause-done g c = λ s up happened k touched. known-rests g.S.Scheme g.D.PartialEq.eq s c.args.self.now up happened c.args.view k c.in-Some.round.now c.due_of.new.round c.in-Some.ensures.value (c.get_mut.follows.lender c.due_of.new.round) ((c.get_mut.follows.holds c.due_of.new.round).3 (some-is c.in-Some.ensures.value)) touched c.args.self.now.me c.remove.new.self
    (ap (λ (z : Common g.row.S.Denot). z.me) k.shared) c.remove.ensures.updates ((rw c.in-Ok-None.field-0-is at c.in-Ok-None.ensures.done) (setup_now g.S.Scheme s up c.args.view 0) (happened c.args.view) (stands-here g.S.Scheme g.D.PartialEq.eq s c.args.self.now up happened c.args.view k 0 c.in-Some.round.now c.in-Some.ensures.value))

pub returns-in-Err-clause-err : goal.returns-in-Err-clause-err
returns-in-Err-clause-err g c = λ s up happened k. same-still g.S.Scheme g.D.PartialEq.eq s c.args.self.now up happened c.args.view k c.in-Some.round.now c.due_of.new.round c.in-Some.ensures.value (c.get_mut.follows.lender c.due_of.new.round) ((c.get_mut.follows.holds c.due_of.new.round).3 (some-is c.in-Some.ensures.value)) (c.in-Err.ensures.err (setup_now g.S.Scheme s up c.args.view 0) (happened c.args.view) (stands-here g.S.Scheme g.D.PartialEq.eq s c.args.self.now up happened c.args.view k 0 c.in-Some.round.now c.in-Some.ensures.value))

pub returns-in-None-clause-done : goal.returns-in-None-clause-done
returns-in-None-clause-done g c = λ s up happened k touched. rw c.get_mut.follows.holds-at-none (none-rests g.S.Scheme g.D.PartialEq.eq s c.args.self.now up happened c.args.view c.remove-in-None.new.self (sym c.in-None.ensures.value) c.remove-in-None.ensures.updates k)
