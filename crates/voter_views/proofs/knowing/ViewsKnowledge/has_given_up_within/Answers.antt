use Rattle.voter_views.proofs.Showing.{each}
use Rattle.voter_views.proofs.knowing.ViewsKnowledge.has_given_up_within.Goals as goal

pub returns : goal.returns
returns g c = each _ (λ s h kept. c.any_within.ensures _ (c.bearing.ensures s h kept))
