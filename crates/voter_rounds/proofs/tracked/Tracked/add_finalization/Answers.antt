use Rattle.std.proofs.Common.{refl}
use Rattle.voter_history.specs.Past.{finalized}
use Rattle.voter_history.specs.declared.sign.Sign.TheVariants as sign
use Rattle.voter_history.specs.Pasts.{bears}
use Rattle.voter_rounds.specs.Rounds.{setup_of}
use Rattle.voter_rounds.specs.Tracked.{Holds}
use Rattle.voter_rounds.proofs.Choices.{none_is}
use Rattle.voter_rounds.proofs.Lent.{lent-first}
use Rattle.voter_rounds.proofs.Showing.{finalized-shown}
use Rattle.voter_rounds.proofs.tracked.Tracked.add_finalization.Goals as goal

pub returns-clause-keeps : goal.returns-clause-keeps
unfolding Holds
returns-clause-keeps g c = λ f t k none.
    let view = c.args.certificate.proposal.round.view in
    let here = rw c.view-view.ensures at (c.in_ok-open.ensures.stands f.common t.led t.past k.rounds) in
    let follows = rw c.view-view.ensures at (c.open.follows.holds c.add_finalization-first.new.self (rw c.in_ok-open.was refl)) in
    let first = none_is (c.add_finalization-first.ensures.first (setup_of f.common view) (t.led view) (t.past view) here) none in
    record {
      length = k.length;
      optimistic_views = k.optimistic_views;
      rounds = lent-first f.common t.led t.past (finalized c.args.certificate) _ first follows k.rounds (c.add_finalization-first.ensures.keeps (setup_of f.common view) (t.led view) (t.past view) here);
      signs = finalized-shown k.signs view c.args.certificate
          (rw c.view-view.ensures at (c.in_ok-mark.ensures (λ u. bears sign.Direct (t.past u)) k.signs.direct))
          (rw c.view-view.ensures at (c.in_ok-mark-2.ensures (λ u. bears sign.Certified (t.past u)) k.signs.certified));
      noted = k.noted;
      members = k.members;
    }

pub returns-clause-replaced : goal.returns-clause-replaced
unfolding Holds
returns-clause-replaced g c = λ f t k none differs.
    let view = c.args.certificate.proposal.round.view in
    let here = rw c.view-view.ensures at (c.in_ok-open.ensures.stands f.common t.led t.past k.rounds) in
    c.add_finalization-first.ensures.replaced (setup_of f.common view) (t.led view) (t.past view) here (none_is (c.add_finalization-first.ensures.first (setup_of f.common view) (t.led view) (t.past view) here) none) differs

pub returns-clause-same : goal.returns-clause-same
unfolding Holds
returns-clause-same g c = λ f t k agrees.
    let view = c.args.certificate.proposal.round.view in
    let here = rw c.view-view.ensures at (c.in_ok-open.ensures.stands f.common t.led t.past k.rounds) in
    c.add_finalization-first.ensures.same (setup_of f.common view) (t.led view) (t.past view) here agrees
