use Rattle.std.proofs.Common.{refl}
use Rattle.std.specs.Prelude.{Some}
use Rattle.voter_history.specs.Past.{bound}
use Rattle.voter_rounds.specs.Rounds.{setup_of}
use Rattle.voter_rounds.specs.Tracked.{Holds}
use Rattle.voter_rounds.proofs.Growing.{bound-plain, plain-kept}
use Rattle.voter_rounds.proofs.Lent.{lent-put}
use Rattle.voter_rounds.proofs.tracked.Tracked.bind.Goals as goal

pub returns : goal.returns
unfolding Holds
returns g c = λ f t k.
    let view = c.args.proposal.round.view in
    let here = rw c.view.ensures at (c.in_ok-open.ensures.stands f.common t.led t.past k.rounds) in
    let follows = rw c.view.ensures at (c.open.follows.holds c.set_verifying.new.self (rw c.in_ok-open.was refl)) in
    rw c.in-Some.is
    (plain-kept k (lent-put f.common t.led t.past (bound c.args.proposal c.in-Some.payload) follows k.rounds (c.set_verifying.ensures (setup_of f.common view) (t.led view) (t.past view) here))
    (bound-plain (Some c.in-Some.payload) c.args.proposal t.past))
