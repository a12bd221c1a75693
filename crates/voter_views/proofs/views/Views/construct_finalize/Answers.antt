use Rattle.std.proofs.Common.{◌∙◌, Bool, false, ap, refl, if◌then◌else◌}
use Rattle.voter_history.specs.Past as past
use Rattle.voter_history.specs.History as History
use Rattle.voter_history.specs.Pasts.{put}
use Rattle.voter_history.specs.History.{seen}
use Rattle.voter_views.specs.Progress.{frame_of, tables}
use Rattle.voter_views.specs.Views.{Keeps}
use Rattle.voter_views.proofs.Stepping.{finalize-quiet, quiet-option}
use Rattle.voter_views.proofs.views.Views.construct_finalize.Goals as goal

pub returns-clause-keeps : goal.returns-clause-keeps
unfolding Keeps
returns-clause-keeps g c = λ s h k.
    quiet-option c.construct_finalize-voted.result (History.voted_finalize c.args.view) (put c.args.view past.voted_finalize (seen s h)) c.construct_finalize-voted.new.self c.tell_if.new.self k (finalize-quiet s h c.args.view) (λ p. refl) (λ p. refl)
    (c.construct_finalize-voted.ensures.keeps (frame_of s) (tables s h) k.progress.tracked)
    c.tell_if.ensures.floor (c.tell_if.ensures.blank ∙ ap (λ (b : Bool). if b then false else c.args.self.now.beginning.is_blank) c.is_some.ensures) (λ p. (refl, refl))
