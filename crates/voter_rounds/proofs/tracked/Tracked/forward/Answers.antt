use Rattle.std.proofs.Common.{refl}
use Rattle.voter_history.specs.Held as offer
use Rattle.voter_history.specs.Past as past
use Rattle.voter_history.specs.Past.{has_nullified}
use Rattle.voter_rounds.specs.Rounds.{setup_of}
use Rattle.voter_rounds.specs.Tracked.{Holds}
use Rattle.voter_rounds.proofs.Forwarding.{offered-tables, offered-closed}
use Rattle.voter_rounds.proofs.Growing.{either-plain, plain-shown, put-plain, still-plain}
use Rattle.voter_rounds.proofs.Lent.{lent-unless}
use Rattle.voter_rounds.proofs.Tables.{nullified_tracked}
use Rattle.voter_rounds.proofs.tracked.Tracked.forward.Goals as goal

pub returns-clause-keeps : goal.returns-clause-keeps
unfolding Holds
returns-clause-keeps g c = λ f t k closed.
    let view = c.args.view in
    let here = c.in_ok-open.ensures.stands f.common t.led t.past k.rounds in
    let follows = c.open.follows.holds c.set_proposal-first.new.self (rw c.in_ok-open.was refl) in
    c.in_ok-follow.ensures f (offered-tables f t view c.args.proposal.now)
    (record {
      length = k.length;
      optimistic_views = k.optimistic_views;
      rounds = lent-unless f.common t.led t.past (past.offered (offer.forwarded c.args.proposal.now)) (has_nullified (t.past view)) follows k.rounds (c.set_proposal-first.ensures.keeps (setup_of f.common c.args.view) _ _ here)
          (nullified_tracked (t.past view) (t.led view));
      signs = plain-shown k.signs
          (either-plain (has_nullified (t.past view)) (still-plain t.past) (put-plain view (past.offered (offer.forwarded c.args.proposal.now)) (λ l. refl) (still-plain t.past)));
      noted = c.in_ok-mark.ensures t.noted k.noted;
      members = k.members;
    })
    (offered-closed f t view c.args.proposal.now closed)

pub returns-clause-answer : goal.returns-clause-answer
unfolding Holds
returns-clause-answer g c = λ f t k. c.set_proposal-first.ensures.answer (setup_of f.common c.args.view) _ _ (c.in_ok-open.ensures.stands f.common t.led t.past k.rounds)
