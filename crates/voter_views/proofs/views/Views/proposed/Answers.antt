use Rattle.std.proofs.Common.{refl}
use Rattle.std.proofs.lemmas.Result.{MatchResult-weaker}
use Rattle.voter_history.specs.History as History
use Rattle.voter_views.specs.Progress.{frame_of, tables}
use Rattle.voter_views.specs.Views.{Keeps}
use Rattle.voter_views.proofs.Stepping.{built-quiet, quiet-if}
use Rattle.voter_views.proofs.views.Views.proposed.Goals as goal

pub returns-clause-keeps : goal.returns-clause-keeps
unfolding Keeps
returns-clause-keeps g c = MatchResult-weaker c.proposed.result c.proposed.ensures.keeps
    (λ taken told s h k. quiet-if taken (History.built c.args.now c.args.proposal c.args.parent_payload) c.proposed.new.self k
    (built-quiet s h c.args.now c.args.proposal c.args.parent_payload) refl (told (frame_of s) (tables s h) k.progress.tracked) k.begun)
    (λ e _. tt)

pub returns-clause-answer : goal.returns-clause-answer
unfolding Keeps
returns-clause-answer g c = MatchResult-weaker c.proposed.result c.proposed.ensures.answer (λ taken told s h k. told (frame_of s) (tables s h) k.progress.tracked) (λ e _. tt)
