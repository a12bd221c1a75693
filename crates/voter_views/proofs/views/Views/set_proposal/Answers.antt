use Rattle.std.proofs.Common.{refl, ◌∷◌}
use Rattle.std.proofs.lemmas.Result.{MatchResult-weaker}
use Rattle.voter_history.specs.Held as offer
use Rattle.voter_history.specs.Past as past
use Rattle.voter_history.specs.Past.{has_nullified}
use Rattle.voter_history.specs.Pasts.{put}
use Rattle.voter_history.specs.History as History
use Rattle.voter_history.specs.History.{seen}
use Rattle.voter_views.specs.Progress.{frame_of, tables}
use Rattle.voter_views.specs.Views.{Keeps}
use Rattle.voter_views.proofs.Following.{leader-closed, named-at}
use Rattle.voter_views.proofs.Stepping.{like-put, like-seen, like-unless, still-kept}
use Rattle.voter_views.proofs.Advancing.{IsAt-tracked}
use Rattle.voter_views.proofs.views.Views.set_proposal.Goals as goal

pub returns-clause-keeps : goal.returns-clause-keeps
unfolding Keeps
returns-clause-keeps g c = MatchResult-weaker c.forward.result c.forward.ensures.keeps
    (λ first told s h k.
    let like = like-unless s h (has_nullified (seen s h c.args.view)) (put c.args.view (past.offered (offer.forwarded c.args.proposal.now)) (seen s h))
    (like-put s h c.args.view (past.offered (offer.forwarded c.args.proposal.now)) (seen s h) (λ l. refl, λ l. refl, λ l. refl) (like-seen s h)) in
    let known = named-at g.S.Scheme c.forward.new.self s h (History.forwarded c.args.view c.args.proposal.now) refl like.2 (told (frame_of s) (tables s h) k.progress.tracked (leader-closed s h)) in
    still-kept (History.forwarded c.args.view c.args.proposal.now) (record c.args.self.now.progress { tracked = c.forward.new.self }) c.args.self.now.backed c.args.self.now.waiting c.args.self.now.beginning k
    (record {
      finalizes = refl;
      begins = refl;
      covers = λ u. refl;
      nullifies = λ u. refl;
      kept_nullification = like.0;
    })
    (IsAt-tracked {t' = tables s (History.forwarded c.args.view c.args.proposal.now ∷ h)} k.progress known)
    k.backed k.waiting k.begun)
    (λ e _. tt)

pub returns-clause-answer : goal.returns-clause-answer
unfolding Keeps
returns-clause-answer g c = MatchResult-weaker c.forward.result c.forward.ensures.answer (λ first told s h k. told (frame_of s) (tables s h) k.progress.tracked) (λ e _. tt)
