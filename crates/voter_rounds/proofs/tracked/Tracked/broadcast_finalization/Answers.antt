use Rattle.std.proofs.Common.{refl}
use Rattle.std.specs.Prelude.{is_some}
use Rattle.std.proofs.lemmas.Result.{MatchResult-weaker}
use Rattle.voter_history.specs.Past.{sent_finalization}
use Rattle.voter_rounds.specs.Rounds.{setup_of}
use Rattle.voter_rounds.specs.Tracked.{Holds}
use Rattle.voter_rounds.proofs.Growing.{either-plain, plain-kept, put-plain, still-plain}
use Rattle.voter_rounds.proofs.Lent.{lent-when}
use Rattle.voter_rounds.proofs.tracked.Tracked.broadcast_finalization.Goals as goal

pub returns-in-Some-clause-keeps : goal.returns-in-Some-clause-keeps
unfolding Holds
returns-in-Some-clause-keeps g c = MatchResult-weaker c.broadcast_finalization.result c.broadcast_finalization.ensures.keeps
    (λ copy sends f t k.
    let here = c.in-Some.ensures.stands f.common t.led t.past k.rounds in
    let follows = rw c.in-Some.is at (c.get_mut.follows.holds c.broadcast_finalization.new.self) in
    plain-kept k (lent-when f.common t.led t.past sent_finalization (is_some copy) follows k.rounds (sends (setup_of f.common c.args.view) (t.led c.args.view) (t.past c.args.view) here.1) (λ _. here.0))
    (either-plain (is_some copy) (put-plain c.args.view sent_finalization (λ l. refl) (still-plain t.past)) (still-plain t.past)))
    (λ e _. tt)

pub returns-in-Some-clause-answer : goal.returns-in-Some-clause-answer
unfolding Holds
returns-in-Some-clause-answer g c = MatchResult-weaker c.broadcast_finalization.result c.broadcast_finalization.ensures.answer
    (λ copy is f t k. is (setup_of f.common c.args.view) (t.led c.args.view) (t.past c.args.view) (c.in-Some.ensures.stands f.common t.led t.past k.rounds).1)
    (λ e _. tt)

pub returns-in-None-clause-keeps : goal.returns-in-None-clause-keeps
unfolding Holds
returns-in-None-clause-keeps g c = λ f t k. plain-kept k (c.get_mut.follows.holds-at-none f.common t.led t.past k.rounds) (still-plain t.past)

pub returns-in-None-clause-answer : goal.returns-in-None-clause-answer
unfolding Holds
returns-in-None-clause-answer g c = λ f t k. rw (c.in-None.ensures.stands f.common t.led t.past k.rounds).0 refl
