use Rattle.std.proofs.Common.{⊎_elim}
use Rattle.voter_views.proofs.Choices.{there-if}
use Rattle.voter_views.specs.Progress.{frame_of, tables}
use Rattle.voter_views.specs.Views.{Keeps}
use Rattle.voter_views.proofs.views.Views.is_tracked.Goals as goal

pub returns : goal.returns
unfolding Keeps
returns g c = λ s h k.
    there-if c.round.result c.is_some.result c.is_some.ensures (c.round.ensures (frame_of s) (tables s h) k.progress.tracked)
    (λ none tracked. ⊎_elim (λ seen. seen none.0) (λ known. cc (rw none.1 at known)) tracked)
    (λ round there. there.0)
