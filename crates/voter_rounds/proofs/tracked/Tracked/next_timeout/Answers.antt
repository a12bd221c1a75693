use Rattle.std.proofs.Common.{refl}
use Rattle.voter_history.specs.Past.{deadline, polled}
use Rattle.voter_rounds.specs.Rounds.{setup_of}
use Rattle.voter_rounds.specs.Tracked.{Holds}
use Rattle.voter_rounds.proofs.Growing.{plain-kept, put-plain, still-plain}
use Rattle.voter_rounds.proofs.Lent.{lent-put, lent-same}
use Rattle.voter_rounds.proofs.tracked.Tracked.next_timeout.Goals as goal

pub returns-clause-keeps : goal.returns-clause-keeps
unfolding Holds
returns-clause-keeps g c = λ f t k.
    let here = c.in_ok-round.ensures.stands f.common t.led t.past k.rounds in
    let follows = c.open.follows.holds c.next_timeout.new.self (rw c.in_ok-round.was refl) in
    let item = polled (deadline c.args.now c.args.retry_interval) in
    plain-kept k (lent-put f.common t.led t.past item follows k.rounds (c.next_timeout.ensures.keeps (setup_of f.common c.args.view) _ _ here))
    (put-plain c.args.view item (λ l. refl) (still-plain t.past))

pub returns-clause-unchanged : goal.returns-clause-unchanged
unfolding Holds
returns-clause-unchanged g c = λ f t k tracked known.
    let here = c.in_ok-round.ensures.stands f.common t.led t.past k.rounds in
    let follows = c.open.follows.holds c.next_timeout.new.self (rw c.in_ok-round.was refl) in
    plain-kept k (lent-same f.common t.led t.past follows k.rounds (c.next_timeout.ensures.unchanged (setup_of f.common c.args.view) _ _ here known) tracked)
    (still-plain t.past)

pub returns-clause-answer : goal.returns-clause-answer
unfolding Holds
returns-clause-answer g c = λ f t k. c.next_timeout.ensures.answer (setup_of f.common c.args.view) _ _ (c.in_ok-round.ensures.stands f.common t.led t.past k.rounds)
