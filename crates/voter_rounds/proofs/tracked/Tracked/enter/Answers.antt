use Rattle.std.proofs.Common.{refl}
use Rattle.voter_history.specs.Past.{entered, armed}
use Rattle.voter_rounds.specs.Rounds.{setup_of}
use Rattle.voter_rounds.specs.Tracked.{Holds}
use Rattle.voter_rounds.proofs.Growing.{plain-kept, put-plain, still-plain}
use Rattle.voter_rounds.proofs.Lent.{lent-put_two}
use Rattle.voter_rounds.proofs.tracked.Tracked.enter.Goals as goal

pub returns : goal.returns
unfolding Holds
returns g c = λ f t k.
    let here = c.in_ok-round.ensures.stands f.common t.led t.past k.rounds in
    let follows = c.open.follows.holds c.set_deadlines.new.self (rw c.in_ok-round.was refl) in
    let arms = armed c.args.leader c.args.certification c.args.stall in
    let enters = entered c.args.now in
    plain-kept k (lent-put_two f.common t.led t.past arms enters follows k.rounds (c.set_deadlines.ensures (setup_of f.common c.args.view) _ _ (c.mark_entered.ensures (setup_of f.common c.args.view) _ _ here)))
    (put-plain c.args.view arms (λ l. refl) (put-plain c.args.view enters (λ l. refl) (still-plain t.past)))
