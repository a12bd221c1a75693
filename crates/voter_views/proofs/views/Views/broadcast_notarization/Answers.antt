use Rattle.std.proofs.Common.{refl}
use Rattle.std.specs.Prelude.{is_some}
use Rattle.std.proofs.lemmas.Result.{MatchResult-weaker}
use Rattle.types_terms.specs.declared.kind.Kind.TheVariants as kind
use Rattle.voter_history.specs.History as History
use Rattle.voter_views.specs.Progress.{frame_of, tables}
use Rattle.voter_views.specs.Views.{Keeps}
use Rattle.voter_views.proofs.Stepping.{quiet-if, sent-quiet}
use Rattle.voter_views.proofs.views.Views.broadcast_notarization.Goals as goal

pub returns-clause-keeps : goal.returns-clause-keeps
unfolding Keeps
returns-clause-keeps g c = MatchResult-weaker c.broadcast_notarization.result c.broadcast_notarization.ensures.keeps
    (λ copy told s h k. quiet-if (is_some copy) (History.sent kind.Notarization c.args.view) c.broadcast_notarization.new.self k (sent-quiet s h kind.Notarization c.args.view) refl
    (told (frame_of s) (tables s h) k.progress.tracked) k.begun)
    (λ e _. tt)

pub returns-clause-answer : goal.returns-clause-answer
unfolding Keeps
returns-clause-answer g c = MatchResult-weaker c.broadcast_notarization.result c.broadcast_notarization.ensures.answer (λ copy told s h k. told (frame_of s) (tables s h) k.progress.tracked) (λ e _. tt)
