use Rattle.std.proofs.Common.{refl}
use Rattle.voter_history.specs.Held.{verifying}
use Rattle.voter_history.specs.Past.{bound, offered}
use Rattle.voter_rounds.specs.Rounds.{setup_of}
use Rattle.voter_rounds.specs.Tracked.{Holds}
use Rattle.voter_rounds.proofs.Growing.{either-plain, plain-kept, put-plain, still-plain}
use Rattle.voter_rounds.proofs.Lent.{lent-when_two}
use Rattle.voter_rounds.proofs.tracked.Tracked.request_verify.Goals as goal

pub returns-in-Some-clause-keeps : goal.returns-in-Some-clause-keeps
unfolding Holds
returns-in-Some-clause-keeps g c = λ f t k.
    let view = c.args.view in
    let here = c.in-Some.ensures.stands f.common t.led t.past k.rounds in
    let follows = rw c.in-Some.is at (c.get_mut.follows.holds c.request_verify.new.round) in
    let binds = bound c.args.proposal c.args.payload in
    plain-kept k (lent-when_two f.common t.led t.past binds (offered verifying) c.request_verify.result follows k.rounds (c.request_verify.ensures.keeps (setup_of f.common c.args.view) _ _ here.1) (λ _. here.0))
    (either-plain c.request_verify.result (put-plain view binds (λ l. refl) (put-plain view (offered verifying) (λ l. refl) (still-plain t.past))) (still-plain t.past))

pub returns-in-Some-clause-answer : goal.returns-in-Some-clause-answer
unfolding Holds
returns-in-Some-clause-answer g c = λ f t k. c.request_verify.ensures.answer (setup_of f.common c.args.view) _ _ (c.in-Some.ensures.stands f.common t.led t.past k.rounds).1

pub returns-in-None-clause-keeps : goal.returns-in-None-clause-keeps
unfolding Holds
returns-in-None-clause-keeps g c = λ f t k. plain-kept k (c.get_mut.follows.holds-at-none f.common t.led t.past k.rounds) (still-plain t.past)

pub returns-in-None-clause-answer : goal.returns-in-None-clause-answer
unfolding Holds
returns-in-None-clause-answer g c = λ f t k.
    let nothing = c.in-None.ensures.stands f.common t.led t.past k.rounds in (
      λ no. cc no,
      λ may. let leads = may.another_leads.0 in absurd (cc (rw nothing.1 at leads)),
    )
