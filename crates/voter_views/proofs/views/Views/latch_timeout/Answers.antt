use Rattle.std.proofs.Common.{refl}
use Rattle.std.proofs.lemmas.Result.{MatchResult-weaker}
use Rattle.voter_history.specs.History as History
use Rattle.voter_views.specs.Progress.{frame_of, tables}
use Rattle.voter_views.specs.Views.{Keeps}
use Rattle.voter_views.proofs.Stepping.{latched-quiet, quiet, unmoved}
use Rattle.voter_views.proofs.views.Views.latch_timeout.Goals as goal

pub returns-clause-keeps : goal.returns-clause-keeps
unfolding Keeps
returns-clause-keeps g c = MatchResult-weaker c.latch_timeout.result c.latch_timeout.ensures.keeps
    (λ _ told s h k. quiet (History.latched c.args.now c.args.view c.args.reason) c.latch_timeout.new.self c.args.self.now.beginning k (latched-quiet s h c.args.now c.args.view c.args.reason) refl (told (frame_of s) (tables s h) k.progress.tracked) k.begun)
    (λ e _. tt)

pub returns-clause-unchanged : goal.returns-clause-unchanged
unfolding Keeps
returns-clause-unchanged g c = MatchResult-weaker c.latch_timeout.result c.latch_timeout.ensures.unchanged
    (λ first told no s h k. unmoved c.latch_timeout.new.self k (told no (frame_of s) (tables s h) k.progress.tracked))
    (λ e _. tt)

pub returns-clause-answer : goal.returns-clause-answer
unfolding Keeps
returns-clause-answer g c = MatchResult-weaker c.latch_timeout.result c.latch_timeout.ensures.answer (λ first told s h k. told (frame_of s) (tables s h) k.progress.tracked) (λ e _. tt)
