use Rattle.std.proofs.Common.{refl}
use Rattle.std.specs.Prelude.{is_some}
use Rattle.voter_history.specs.Held.{building}
use Rattle.voter_history.specs.Past.{offered}
use Rattle.voter_rounds.specs.Rounds.{setup_of}
use Rattle.voter_rounds.specs.Tracked.{Holds}
use Rattle.voter_rounds.proofs.Growing.{either-plain, plain-kept, put-plain, still-plain}
use Rattle.voter_rounds.proofs.Lent.{lent-when}
use Rattle.voter_rounds.proofs.tracked.Tracked.try_propose.Goals as goal

pub returns-in-Some-clause-keeps : goal.returns-in-Some-clause-keeps
unfolding Holds
returns-in-Some-clause-keeps g c = λ f t k.
    let here = c.in-Some.ensures.stands f.common t.led t.past k.rounds in
    let follows = rw c.in-Some.is at (c.get_mut.follows.holds c.try_propose.new.self) in
    let asked = is_some c.try_propose.result in
    plain-kept k (lent-when f.common t.led t.past (offered building) asked follows k.rounds (c.try_propose.ensures.keeps (setup_of f.common c.args.view) _ _ here.1) (λ _. here.0))
    (either-plain asked (put-plain c.args.view (offered building) (λ l. refl) (still-plain t.past)) (still-plain t.past))

pub returns-in-Some-clause-answer : goal.returns-in-Some-clause-answer
unfolding Holds
returns-in-Some-clause-answer g c = λ f t k. c.try_propose.ensures.answer (setup_of f.common c.args.view) _ _ (c.in-Some.ensures.stands f.common t.led t.past k.rounds).1

pub returns-in-None-clause-keeps : goal.returns-in-None-clause-keeps
unfolding Holds
returns-in-None-clause-keeps g c = λ f t k. plain-kept k (c.get_mut.follows.holds-at-none f.common t.led t.past k.rounds) (still-plain t.past)

pub returns-in-None-clause-answer : goal.returns-in-None-clause-answer
unfolding Holds
returns-in-None-clause-answer g c = λ f t k may.
    let nothing = c.in-None.ensures.stands f.common t.led t.past k.rounds in
    let leads = may.leads.0 in
    absurd (cc (rw nothing.1 at leads))
