use Rattle.std.proofs.lemmas.Bool.{iff_false}
use Rattle.voter_rules.proofs.Walking.{moves_on, stops_at}
use Rattle.voter_rules.proofs.ancestry.follow.Goals as goal

pub returns-in_err-next-clause-lower : goal.returns-in_err-next-clause-lower
returns-in_err-next-clause-lower g c = rw c.from_residual.ensures tt

pub returns-in_err-next-clause-rests : goal.returns-in_err-next-clause-rests
returns-in_err-next-clause-rests g c = λ m k shown. rw c.from_residual.ensures (λ rests. c.in_err-next.ensures.link m k shown rests.0 rests.1)

pub returns-then-not-is_met-clause-lower : goal.returns-then-not-is_met-clause-lower
returns-then-not-is_met-clause-lower g c = tt

pub returns-then-not-is_met-clause-rests : goal.returns-then-not-is_met-clause-rests
returns-then-not-is_met-clause-rests g c = λ m k shown.
    stops_at m k c.args.parent c.in_ok-next.next (c.in_ok-next.ensures.link m k shown) c.args.bound (iff_false c.is_met.ensures c.if-not-is_met.true)

pub returns-clause-lower : goal.returns-clause-lower
returns-clause-lower g c = c.in_ok-next.ensures.lower

pub returns-clause-rests : goal.returns-clause-rests
returns-clause-rests g c = λ m k shown. moves_on m k c.args.parent c.in_ok-next.next (c.in_ok-next.ensures.link m k shown) c.args.bound (c.is_met.ensures.0 c.if-not-is_met.false)
