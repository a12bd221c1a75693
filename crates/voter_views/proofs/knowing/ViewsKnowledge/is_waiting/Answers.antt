use Rattle.voter_history.specs.History.{is_marked}
use Rattle.voter_history.specs.Known.{waits}
use Rattle.voter_views.specs.Views.{Keeps}
use Rattle.voter_views.proofs.Showing.{each}
use Rattle.voter_views.proofs.knowing.ViewsKnowledge.is_waiting.Goals as goal

pub returns : goal.returns
unfolding Keeps
returns g c = each _ (λ s h kept. c.contains.ensures (is_marked s waits h) kept.waiting)
