use Rattle.std.proofs.Common.{◌≡◌, ◌∙◌, Bool, true, false, ◌∷◌, ap, subst, if◌then◌else◌}
use Rattle.std.proofs.lemmas.Result.{MatchResult-weaker}
use Rattle.voter_views.proofs.Advancing.{grown-tables}
use Rattle.voter_history.specs.History as History
use Rattle.voter_history.specs.History.{is_marked}
use Rattle.voter_history.specs.Known.{backs}
use Rattle.voter_rounds.specs.Marks.{Shows}
use Rattle.voter_rounds.specs.Tracked.{Holds}
use Rattle.voter_views.specs.Progress.{frame_of, tables}
use Rattle.voter_views.specs.Views.{Keeps, recalls}
use Rattle.voter_views.proofs.Replaying.{is-other, other-begun, other-quiet, other-seen, other-stays, recalled-backed, recalled-notarize, recalled-steps, recalled-unbacked}
use Rattle.voter_views.proofs.Choices.{is-not, not-so}
use Rattle.voter_views.proofs.Stepping.{quiet}
use Rattle.voter_views.proofs.views.Views.replay.Goals as goal

pub returns-in_default : goal.returns-in_default
unfolding Keeps
returns-in_default g c = MatchResult-weaker c.replay.result c.replay.ensures
    (λ _ replayed s h k.
    let a = c.args.artifact.now in
    let other = is-other a c.in_default.not-Notarize in
    let told = replayed (frame_of s) (tables s h) k.progress.tracked in (
      told.0,
      told.1,
      quiet (recalls told.0 a) c.replay.new.self c.tell_if.new.self k (other-quiet s h a other told.0) (other-stays s h a other told.0)
          (subst (λ t. Holds g.S.Scheme (frame_of s) c.replay.new.self (grown-tables s h t)) (other-seen s h a other told.0) told.2)
          (other-begun s h a other told.0 c.args.self.now.beginning c.tell_if.new.self c.tell_if.ensures.floor (c.tell_if.ensures.blank ∙ ap (λ (b : Bool). if b then false else c.args.self.now.beginning.is_blank) c.is_vote.ensures) k.begun),
    ))
    (λ e _. tt)

pub returns-then-is_taken : goal.returns-then-is_taken
unfolding Keeps
returns-then-is_taken g c = MatchResult-weaker c.mark.result c.mark.ensures
    (λ _ marks s h k.
    let p = c.in-Notarize.vote.proposal in
    let view : c.view-view.result ≡ p.round.view = c.view-view.ensures in
    let told = recalled-steps c.in-Notarize.vote c.undecided_payload-payload.result c.view-view.result c.handoff_leader-next_leader.result c.replay-2.new.self c.bind.new.self c.follow_vote.new.self k
    (c.undecided_payload-payload.ensures s h k) view (c.handoff_leader-next_leader.ensures.value s h k) (c.handoff_leader-next_leader.ensures.member s h k)
    (rw c.in-Notarize.is at c.in_ok-replay.ensures) c.in_ok-bind.ensures c.in_ok-follow_vote.ensures in
    let is_taken : told.0 ≡ true = told.1.1 ((c.takes-is_taken.ensures s h k).0 c.if-is_taken.true) in
    let marked : Shows c.mark.new.self (is_marked s backs (History.recalled_notarize p told.0 ∷ h)) = recalled-backed s h p told.0 c.view-view.result c.mark.new.self view is_taken (marks (is_marked s backs h) k.backed) in
    rw c.in-Notarize.is (told.0, told.1, recalled-notarize p told.0 c.follow_vote.new.self c.mark.new.self c.tell.new.self k told.2 marked c.tell.ensures.floor c.tell.ensures.blank))
    (λ e _. tt)

pub returns : goal.returns
unfolding Keeps
returns g c = λ s h k.
    let p = c.in-Notarize.vote.proposal in
    let told = recalled-steps c.in-Notarize.vote c.undecided_payload-payload.result c.view-view.result c.handoff_leader-next_leader.result c.replay-2.new.self c.bind.new.self c.follow_vote.new.self k
    (c.undecided_payload-payload.ensures s h k) c.view-view.ensures (c.handoff_leader-next_leader.ensures.value s h k) (c.handoff_leader-next_leader.ensures.member s h k)
    (rw c.in-Notarize.is at c.in_ok-replay.ensures) c.in_ok-bind.ensures c.in_ok-follow_vote.ensures in
    let isnt_taken : told.0 ≡ false = not-so told.0 (λ is. is-not c.if-is_taken.false ((c.takes-is_taken.ensures s h k).1 (told.1.0 is))) in
    let marked : Shows c.args.self.now.backed (is_marked s backs (History.recalled_notarize p told.0 ∷ h)) = recalled-unbacked s h p told.0 c.args.self.now.backed isnt_taken k.backed in
    rw c.in-Notarize.is (told.0, told.1, recalled-notarize p told.0 c.follow_vote.new.self c.args.self.now.backed c.tell.new.self k told.2 marked c.tell.ensures.floor c.tell.ensures.blank)
