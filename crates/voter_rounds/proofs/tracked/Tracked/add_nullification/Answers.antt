use Rattle.std.proofs.Common.{refl}
use Rattle.voter_history.specs.Past.{nullified}
use Rattle.voter_rounds.specs.Rounds.{setup_of}
use Rattle.voter_rounds.specs.Tracked.{Holds}
use Rattle.voter_rounds.proofs.Choices.{none_is}
use Rattle.voter_rounds.proofs.Growing.{plain-kept, put-plain, still-plain}
use Rattle.voter_rounds.proofs.Lent.{lent-first}
use Rattle.voter_rounds.proofs.tracked.Tracked.add_nullification.Goals as goal

pub returns : goal.returns
unfolding Holds
returns g c = λ f t k none.
    let view = c.args.certificate.round.view in
    let here = rw c.view-view.ensures at (c.in_ok-open.ensures.stands f.common t.led t.past k.rounds) in
    let follows = rw c.view-view.ensures at (c.open.follows.holds c.add_nullification-first.new.self (rw c.in_ok-open.was refl)) in
    let first = none_is (c.add_nullification-first.ensures.first (setup_of f.common view) (t.led view) (t.past view) here) none in
    plain-kept k (lent-first f.common t.led t.past (nullified c.args.certificate) _ first follows k.rounds (c.add_nullification-first.ensures.keeps (setup_of f.common view) (t.led view) (t.past view) here))
    (put-plain view (nullified c.args.certificate) (λ l. refl) (still-plain t.past))
