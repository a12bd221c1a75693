use Rattle.std.proofs.Common.{refl}
use Rattle.std.specs.Prelude.{is_some}
use Rattle.voter_history.specs.History as History
use Rattle.voter_views.specs.Progress.{frame_of, tables}
use Rattle.voter_views.specs.Views.{Keeps}
use Rattle.voter_views.proofs.Stepping.{build_asked-quiet, quiet-if}
use Rattle.voter_views.proofs.views.Views.try_propose.Goals as goal

pub returns-clause-keeps : goal.returns-clause-keeps
unfolding Keeps
returns-clause-keeps g c = λ s h k.
    quiet-if (is_some c.try_propose.result) (History.build_asked c.args.view) c.try_propose.new.self k (build_asked-quiet s h c.args.view) refl
    (c.try_propose.ensures.keeps (frame_of s) (tables s h) k.progress.tracked) k.begun

pub returns-clause-answer : goal.returns-clause-answer
unfolding Keeps
returns-clause-answer g c = λ s h k. rw k.me at (c.try_propose.ensures.answer (frame_of s) (tables s h) k.progress.tracked)
