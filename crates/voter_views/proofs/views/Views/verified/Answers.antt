use Rattle.std.proofs.Common.{refl}
use Rattle.std.proofs.lemmas.Result.{MatchResult-weaker}
use Rattle.voter_history.specs.History as History
use Rattle.voter_views.specs.Progress.{frame_of, tables}
use Rattle.voter_views.specs.Views.{Keeps}
use Rattle.voter_views.proofs.Stepping.{confirmed-quiet, quiet}
use Rattle.voter_views.proofs.views.Views.verified.Goals as goal

pub returns-clause-keeps : goal.returns-clause-keeps
unfolding Keeps
returns-clause-keeps g c = MatchResult-weaker c.verified.result c.verified.ensures.keeps
    (λ became told s h k. quiet (History.confirmed c.args.view) c.verified.new.self c.args.self.now.beginning k (confirmed-quiet s h c.args.view) refl (told (frame_of s) (tables s h) k.progress.tracked) k.begun)
    (λ e _. tt)

pub returns-clause-answer : goal.returns-clause-answer
unfolding Keeps
returns-clause-answer g c = MatchResult-weaker c.verified.result c.verified.ensures.answer (λ became told s h k. told (frame_of s) (tables s h) k.progress.tracked) (λ e _. tt)
