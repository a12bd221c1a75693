use Rattle.std.proofs.Common.{true, false}
use Rattle.std.proofs.lemmas.Result.{MatchResult-weaker}
use Rattle.voter_history.specs.declared.sign.Sign.TheVariants as sign
use Rattle.voter_history.specs.Pasts.{bears}
use Rattle.voter_rounds.specs.Tracked.{Holds}
use Rattle.voter_rounds.proofs.Growing.{plain-kept, recalled-plain}
use Rattle.voter_rounds.proofs.Showing.{nullified-shown}
use Rattle.voter_rounds.proofs.tracked.Tracked.replay.Goals as goal

pub returns-in-Certification : goal.returns-in-Certification
unfolding Holds
returns-in-Certification g c = MatchResult-weaker c.judge.result c.judge.ensures
    (λ _ judges f t k. rw c.in-Certification.is (false, tt, rw c.view.ensures at (judges f t k)))
    (λ e _. tt)

pub returns-in_ok-mark-in-Nullify : goal.returns-in_ok-mark-in-Nullify
unfolding Holds
returns-in_ok-mark-in-Nullify g c = MatchResult-weaker c.replay.result c.replay.ensures
    (λ _ replays f t k.
    let told = rw c.in-Nullify.is at (replays f.common t.led t.past k.rounds) in
    rw c.in-Nullify.is (
      told.0,
      told.1,
      record {
        length = k.length;
        optimistic_views = k.optimistic_views;
        rounds = told.2;
        signs = nullified-shown k.signs c.in-Nullify.vote.round.view true (rw c.view-in-Nullify.ensures at (c.in_ok-mark-in-Nullify.ensures (λ u. bears sign.GivenUp (t.past u)) k.signs.given_up));
        noted = k.noted;
        members = k.members;
      },
    ))
    (λ e _. tt)

pub returns-in_default : goal.returns-in_default
unfolding Holds
returns-in_default g c = MatchResult-weaker c.replay-in_default.result c.replay-in_default.ensures
    (λ _ replays f t k.
    let told = replays f.common t.led t.past k.rounds in
    (told.0, told.1, plain-kept k told.2 (recalled-plain told.0 c.args.artifact.now t.past c.in_default.not-Certification c.in_default.not-Nullify)))
    (λ e _. tt)
