use Rattle.std.proofs.Common.{refl}
use Rattle.std.specs.Prelude.{is_some}
use Rattle.voter_history.specs.Past.{voted_nullify}
use Rattle.voter_history.specs.declared.sign.Sign.TheVariants as sign
use Rattle.voter_history.specs.Pasts.{bears}
use Rattle.voter_rounds.specs.Rounds.{setup_of}
use Rattle.voter_rounds.specs.Tracked.{Holds}
use Rattle.voter_rounds.proofs.Lent.{lent-when}
use Rattle.voter_rounds.proofs.Showing.{nullified-shown}
use Rattle.voter_rounds.proofs.Tables.{finalized_tracked}
use Rattle.voter_rounds.proofs.tracked.Tracked.construct_nullify.Goals as goal

pub returns-clause-keeps : goal.returns-clause-keeps
unfolding Holds
returns-clause-keeps g c = λ f t k.
    let view = c.args.view in
    let voted = c.construct_nullify-voted.result in
    let here = c.in_ok-open.ensures.stands f.common t.led t.past k.rounds in
    let follows = c.open.follows.holds c.construct_nullify-voted.new.self (rw c.in_ok-open.was refl) in
    record {
      length = k.length;
      optimistic_views = k.optimistic_views;
      rounds = lent-when f.common t.led t.past voted_nullify (is_some voted) follows k.rounds (c.construct_nullify-voted.ensures.keeps (setup_of f.common c.args.view) _ _ here)
          (finalized_tracked (t.past view) (t.led view) voted (c.construct_nullify-voted.ensures.answer (setup_of f.common c.args.view) _ _ here));
      signs = nullified-shown k.signs view (is_some voted) (rw c.is_some.ensures at (c.in_ok-mark_if.ensures (λ u. bears sign.GivenUp (t.past u)) k.signs.given_up));
      noted = k.noted;
      members = k.members;
    }

pub returns-clause-answer : goal.returns-clause-answer
unfolding Holds
returns-clause-answer g c = λ f t k. c.construct_nullify-voted.ensures.answer (setup_of f.common c.args.view) _ _ (c.in_ok-open.ensures.stands f.common t.led t.past k.rounds)
