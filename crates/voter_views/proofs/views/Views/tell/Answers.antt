use Rattle.std.proofs.Common.{subst}
use Rattle.std.proofs.lemmas.Result.{MatchResult-weaker}
use Rattle.voter_views.proofs.Advancing.{grown-tables}
use Rattle.voter_views.specs.Progress.{frame_of, tables}
use Rattle.voter_rounds.specs.Tracked.{Holds}
use Rattle.voter_views.specs.Views.{Keeps, noticed}
use Rattle.voter_views.proofs.Stepping.{noticed-begun, noticed-quiet, noticed-seen, noticed-stays, quiet}
use Rattle.voter_views.proofs.views.Views.tell.Goals as goal

pub returns : goal.returns
unfolding Keeps
returns g c = MatchResult-weaker c.tell.result c.tell.ensures
    (λ _ told s h k.
    quiet (noticed c.args.view c.args.notice) c.tell.new.self c.args.self.now.beginning k (noticed-quiet s h c.args.view c.args.notice) (noticed-stays s h c.args.view c.args.notice)
    (subst (λ t. Holds g.S.Scheme (frame_of s) c.tell.new.self (grown-tables s h t)) (noticed-seen s h c.args.view c.args.notice) (told (frame_of s) (tables s h) k.progress.tracked))
    (noticed-begun s h c.args.view c.args.notice c.args.self.now.beginning k.begun))
    (λ e _. tt)
