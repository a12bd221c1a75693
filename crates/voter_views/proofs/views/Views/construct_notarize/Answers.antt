use Rattle.std.proofs.Common.{◌≡◌, ◌==◌, ◌∙◌, true, refl, ◌∷◌}
use Rattle.std.proofs.lemmas.Bool.{eq-eqb}
use Rattle.voter_history.specs.Past as past
use Rattle.voter_history.specs.History as History
use Rattle.voter_history.specs.Pasts.{is_direct, put}
use Rattle.voter_history.specs.History.{is_marked, seen}
use Rattle.voter_history.specs.Known.{backs}
use Rattle.voter_views.specs.Progress.{frame_of, tables}
use Rattle.voter_rounds.specs.Tracked.{Holds}
use Rattle.voter_views.specs.Views.{Keeps}
use Rattle.voter_rounds.specs.Laws.{put-fact}
use Rattle.voter_views.proofs.Following.{voted-at}
use Rattle.voter_views.proofs.Stepping.{notarize-still, spoken-closed, still-kept, unmoved}
use Rattle.voter_views.proofs.Advancing.{IsAt-tracked, grown-tables}
use Rattle.voter_views.proofs.views.Views.construct_notarize.Goals as goal

pub returns-in_default-clause-keeps : goal.returns-in_default-clause-keeps
unfolding Keeps
returns-in_default-clause-keeps g c = λ s h k.
    let none = c.in_default.is in
    unmoved c.construct_notarize.new.self k (rw none at (c.construct_notarize.ensures.keeps (frame_of s) (tables s h) k.progress.tracked))

pub returns-clause-keeps : goal.returns-clause-keeps
unfolding Keeps
returns-clause-keeps g c = λ s h k.
    let view = c.args.view in
    let grown = put view past.voted_notarize (seen s h) in
    let voted : Holds g.S.Scheme (frame_of s) c.construct_notarize.new.self (grown-tables s h grown) =
    rw c.in-Some.is at (c.construct_notarize.ensures.keeps (frame_of s) (tables s h) k.progress.tracked) in
    let certificates = put-fact is_direct past.voted_notarize (λ l. refl) view (seen s h) in
    let here : (view == view) ≡ true = eq-eqb view view refl in
    let followed = c.in_ok-follow_vote.ensures (frame_of s) (grown-tables s h grown) voted (c.handoff_leader-next_leader.ensures.member s h k)
    (spoken-closed s h grown view certificates (λ w apart. rw apart refl)) in
    let led = voted-at g.S.Scheme c.follow_vote.new.self s h (History.voted_notarize view c.in-Some.proposal) view c.handoff_leader-next_leader.result refl (λ u. refl) (rw here refl)
    (λ w apart. rw apart refl) (c.handoff_leader-next_leader.ensures.value s h k) followed in
    still-kept (History.voted_notarize view c.in-Some.proposal) (record c.args.self.now.progress { tracked = c.follow_vote.new.self }) c.mark.new.self c.args.self.now.waiting c.tell.new.self k (notarize-still s h view c.in-Some.proposal)
    (IsAt-tracked {t' = tables s (History.voted_notarize view c.in-Some.proposal ∷ h)} k.progress led)
    (c.in_ok-mark.ensures (is_marked s backs h) k.backed) k.waiting (c.tell.ensures.floor ∙ k.begun.0, c.tell.ensures.blank)

pub returns-in_default-clause-answer : goal.returns-in_default-clause-answer
unfolding Keeps
returns-in_default-clause-answer g c = λ s h k. rw c.in_default.is at (c.construct_notarize.ensures.answer (frame_of s) (tables s h) k.progress.tracked)

pub returns-clause-answer : goal.returns-clause-answer
unfolding Keeps
returns-clause-answer g c = λ s h k. rw c.in-Some.is at (c.construct_notarize.ensures.answer (frame_of s) (tables s h) k.progress.tracked)
