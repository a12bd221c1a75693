use Rattle.std.proofs.Common.{◌≡◌, refl}
use Rattle.std.specs.Prelude.{is_some, not, ◌&&◌}
use Rattle.voter_history.specs.Past.{judged, verdict}
use Rattle.voter_history.specs.declared.sign.Sign.TheVariants as sign
use Rattle.voter_history.specs.Pasts.{bears}
use Rattle.voter_rounds.specs.Rounds.{setup_of}
use Rattle.voter_rounds.specs.Tracked.{Holds}
use Rattle.voter_rounds.proofs.Lent.{lent-put}
use Rattle.voter_rounds.proofs.Showing.{judged-shown}
use Rattle.voter_rounds.proofs.tracked.Tracked.judge.Goals.{then-is_first, else-is_first, then-is_first-2, else-is_first-2}
use Rattle.voter_rounds.proofs.tracked.Tracked.judge.Goals as goal

pub returns : goal.returns
unfolding Holds
returns g c = λ f t k.
    let was_judged = c.is_judged-is_first.ensures f t k in
    let certifies : c.if-is_first.mark_if ≡ (not (is_some (verdict (t.past c.args.view))) && c.args.is_success) = elim c.if-is_first.branch [
      | then-is_first w ↦ rw (← was_judged, w.if-is_first.true) w.mark_if-is
      | else-is_first w ↦ rw (← was_judged, w.if-is_first.false) (rw w.if-is_first.false at w.mark_if-is)
    ] in
    let fails : c.if-is_first-2.mark_if ≡ (not (is_some (verdict (t.past c.args.view))) && not c.args.is_success) = elim c.if-is_first-2.branch [
      | then-is_first-2 w ↦ rw (← was_judged, w.if-is_first-2.true) w.mark_if-is
      | else-is_first-2 w ↦ rw (← was_judged, w.if-is_first-2.false) (rw w.if-is_first-2.false at w.mark_if-is)
    ] in
    let here = c.in_ok-open.ensures.stands f.common t.led t.past k.rounds in
    let follows = c.open.follows.holds c.certified.new.self (rw c.in_ok-open.was refl) in
    record {
      length = k.length;
      optimistic_views = k.optimistic_views;
      rounds = lent-put f.common t.led t.past (judged c.args.is_success) follows k.rounds (c.certified.ensures (setup_of f.common c.args.view) _ _ here);
      signs = judged-shown k.signs c.args.view c.args.is_success
          (rw certifies at (c.in_ok-mark_if.ensures (λ u. bears sign.Certified (t.past u)) k.signs.certified))
          (rw fails at (c.in_ok-mark_if-2.ensures (λ u. bears sign.Failed (t.past u)) k.signs.failed));
      noted = k.noted;
      members = k.members;
    }
