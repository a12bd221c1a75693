use Rattle.std.proofs.Common.{refl}
use Rattle.voter_rounds.specs.Rounds.{setup_of, told}
use Rattle.voter_rounds.specs.Tracked.{Holds}
use Rattle.voter_rounds.proofs.Growing.{plain-kept, put-plain, still-plain, told-plain}
use Rattle.voter_rounds.proofs.Lent.{lent-put}
use Rattle.voter_rounds.proofs.tracked.Tracked.tell.Goals as goal

pub returns : goal.returns
unfolding Holds
returns g c = λ f t k.
    let here = c.in_ok-open.ensures.stands f.common t.led t.past k.rounds in
    let follows = c.open.follows.holds c.tell.new.round (rw c.in_ok-open.was refl) in
    plain-kept k (lent-put f.common t.led t.past (told c.args.notice) follows k.rounds (c.tell.ensures (setup_of f.common c.args.view) _ _ here))
    (put-plain c.args.view (told c.args.notice) (told-plain c.args.notice) (still-plain t.past))
