use Rattle.voter_views.specs.Views.{Keeps}
use Rattle.voter_views.proofs.Showing.{each}
use Rattle.voter_views.proofs.knowing.ViewsKnowledge.genesis.Goals as goal

pub returns : goal.returns
unfolding Keeps
returns g c = each _ (λ s h kept. kept.genesis)
