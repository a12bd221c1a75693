use Rattle.voter_views.proofs.Showing.{each}
use Rattle.voter_views.proofs.knowing.ViewsKnowledge.last_certified.Goals as goal

pub returns : goal.returns
returns g c = each _ (λ s h kept. c.last_explicit.ensures s h kept)
