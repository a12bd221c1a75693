use Rattle.std.proofs.Common.{refl}
use Rattle.std.specs.Prelude.{is_some}
use Rattle.voter_history.specs.Past.{voted_notarize}
use Rattle.voter_rounds.specs.Rounds.{setup_of}
use Rattle.voter_rounds.specs.Tracked.{Holds}
use Rattle.voter_rounds.proofs.Growing.{either-plain, plain-kept, put-plain, still-plain}
use Rattle.voter_rounds.proofs.Lent.{lent-when}
use Rattle.voter_rounds.proofs.tracked.Tracked.construct_notarize.Goals as goal

pub returns-in-Some-clause-keeps : goal.returns-in-Some-clause-keeps
unfolding Holds
returns-in-Some-clause-keeps g c = λ f t k.
    let here = c.in-Some.ensures.stands f.common t.led t.past k.rounds in
    let follows = rw c.in-Some.is at (c.get_mut.follows.holds c.construct_notarize.new.self) in
    let voted = is_some c.construct_notarize.result in
    plain-kept k (lent-when f.common t.led t.past voted_notarize voted follows k.rounds (c.construct_notarize.ensures.keeps (setup_of f.common c.args.view) _ _ here.1) (λ _. here.0))
    (either-plain voted (put-plain c.args.view voted_notarize (λ l. refl) (still-plain t.past)) (still-plain t.past))

pub returns-in-Some-clause-answer : goal.returns-in-Some-clause-answer
unfolding Holds
returns-in-Some-clause-answer g c = λ f t k. c.construct_notarize.ensures.answer (setup_of f.common c.args.view) _ _ (c.in-Some.ensures.stands f.common t.led t.past k.rounds).1

pub returns-in-None-clause-keeps : goal.returns-in-None-clause-keeps
unfolding Holds
returns-in-None-clause-keeps g c = λ f t k. plain-kept k (c.get_mut.follows.holds-at-none f.common t.led t.past k.rounds) (still-plain t.past)

pub returns-in-None-clause-answer : goal.returns-in-None-clause-answer
unfolding Holds
returns-in-None-clause-answer g c = λ f t k may.
    let nothing = c.in-None.ensures.stands f.common t.led t.past k.rounds in
    let verified = may.verified.0 in
    absurd (cc (rw nothing.0 at verified))
