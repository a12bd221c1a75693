use Rattle.std.proofs.Common.{refl}
use Rattle.voter_history.specs.Past.{bound, built}
use Rattle.voter_rounds.specs.Rounds.{setup_of}
use Rattle.voter_rounds.specs.Tracked.{Holds}
use Rattle.voter_rounds.proofs.Choices.{false_is_not}
use Rattle.voter_rounds.proofs.Growing.{either-plain, plain-kept, put-plain, still-plain}
use Rattle.voter_rounds.proofs.Lent.{lent-when_two}
use Rattle.voter_rounds.proofs.Tables.{refused_tracked}
use Rattle.voter_rounds.proofs.tracked.Tracked.proposed.Goals as goal

pub returns-clause-keeps : goal.returns-clause-keeps
unfolding Holds
returns-clause-keeps g c = λ f t k.
    let proposal = c.args.proposal in
    let view = proposal.round.view in
    let here = rw c.view.ensures at (c.in_ok-round.ensures.stands f.common t.led t.past k.rounds) in
    let follows = rw c.view.ensures at (c.open.follows.holds c.record_build.new.round (rw c.in_ok-round.was refl)) in
    let answer = c.record_build.ensures.answer (setup_of f.common view) (t.led view) (t.past view) here in
    plain-kept k (lent-when_two f.common t.led t.past (bound proposal c.args.payload) (built c.args.now proposal) c.record_build.result follows k.rounds (c.record_build.ensures.keeps (setup_of f.common view) (t.led view) (t.past view) here)
    (λ no. refused_tracked (t.past view) (t.led view) proposal (λ both. false_is_not no (answer.1 both))))
    (either-plain c.record_build.result (put-plain view (bound proposal c.args.payload) (λ l. refl) (put-plain view (built c.args.now proposal) (λ l. refl) (still-plain t.past))) (still-plain t.past))

pub returns-clause-answer : goal.returns-clause-answer
unfolding Holds
returns-clause-answer g c = λ f t k.
    let view = c.args.proposal.round.view in
    c.record_build.ensures.answer (setup_of f.common view) (t.led view) (t.past view) (rw c.view.ensures at (c.in_ok-round.ensures.stands f.common t.led t.past k.rounds))
