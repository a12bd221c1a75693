use Rattle.std.proofs.Common.{refl}
use Rattle.voter_history.specs.Past.{latched}
use Rattle.voter_rounds.specs.Rounds.{setup_of}
use Rattle.voter_rounds.specs.Tracked.{Holds}
use Rattle.voter_rounds.proofs.Growing.{plain-kept, put-plain, still-plain}
use Rattle.voter_rounds.proofs.Lent.{lent-put, lent-same}
use Rattle.voter_rounds.proofs.Tables.{latched_tracked}
use Rattle.voter_rounds.proofs.tracked.Tracked.latch_timeout.Goals as goal

pub returns-clause-keeps : goal.returns-clause-keeps
unfolding Holds
returns-clause-keeps g c = λ f t k.
    let here = c.in_ok-open.ensures.stands f.common t.led t.past k.rounds in
    let follows = c.open.follows.holds c.latch_timeout.new.self (rw c.in_ok-open.was refl) in
    let item = latched c.args.now c.args.reason in
    plain-kept k (lent-put f.common t.led t.past item follows k.rounds (c.latch_timeout.ensures.keeps (setup_of f.common c.args.view) _ _ here))
    (put-plain c.args.view item (λ l. refl) (still-plain t.past))

pub returns-clause-unchanged : goal.returns-clause-unchanged
unfolding Holds
returns-clause-unchanged g c = λ no f t k.
    let here = c.in_ok-open.ensures.stands f.common t.led t.past k.rounds in
    let follows = c.open.follows.holds c.latch_timeout.new.self (rw c.in_ok-open.was refl) in
    let first = c.latch_timeout.ensures.answer (setup_of f.common c.args.view) _ _ here in
    plain-kept k (lent-same f.common t.led t.past follows k.rounds (c.latch_timeout.ensures.unchanged no (setup_of f.common c.args.view) _ _ here)
    (latched_tracked (t.past c.args.view) (t.led c.args.view) c.latch_timeout.result first no))
    (still-plain t.past)

pub returns-clause-answer : goal.returns-clause-answer
unfolding Holds
returns-clause-answer g c = λ f t k. c.latch_timeout.ensures.answer (setup_of f.common c.args.view) _ _ (c.in_ok-open.ensures.stands f.common t.led t.past k.rounds)
