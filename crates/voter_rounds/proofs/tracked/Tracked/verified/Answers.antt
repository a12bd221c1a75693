use Rattle.std.proofs.Common.{refl}
use Rattle.voter_history.specs.Held.{confirmed}
use Rattle.voter_history.specs.Past.{has_nullified, offered}
use Rattle.voter_rounds.specs.Rounds.{setup_of}
use Rattle.voter_rounds.specs.Tracked.{Holds}
use Rattle.voter_rounds.proofs.Growing.{either-plain, plain-kept, put-plain, still-plain}
use Rattle.voter_rounds.proofs.Lent.{lent-unless}
use Rattle.voter_rounds.proofs.Tables.{nullified_tracked}
use Rattle.voter_rounds.proofs.tracked.Tracked.verified.Goals as goal

pub returns-clause-keeps : goal.returns-clause-keeps
unfolding Holds
returns-clause-keeps g c = λ f t k.
    let view = c.args.view in
    let here = c.in_ok-open.ensures.stands f.common t.led t.past k.rounds in
    let follows = c.open.follows.holds c.verified.new.self (rw c.in_ok-open.was refl) in
    plain-kept k (lent-unless f.common t.led t.past (offered confirmed) (has_nullified (t.past view)) follows k.rounds (c.verified.ensures.keeps (setup_of f.common c.args.view) _ _ here) (nullified_tracked (t.past view) (t.led view)))
    (either-plain (has_nullified (t.past view)) (still-plain t.past) (put-plain view (offered confirmed) (λ l. refl) (still-plain t.past)))

pub returns-clause-answer : goal.returns-clause-answer
unfolding Holds
returns-clause-answer g c = λ f t k. c.verified.ensures.answer (setup_of f.common c.args.view) _ _ (c.in_ok-open.ensures.stands f.common t.led t.past k.rounds)
