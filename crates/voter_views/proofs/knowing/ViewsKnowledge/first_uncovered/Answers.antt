use Rattle.voter_views.specs.Views.{Keeps}
use Rattle.voter_views.proofs.Showing.{each, first_uncovered_of}
use Rattle.voter_views.proofs.Uncovering.{first-uncovered}
use Rattle.voter_views.proofs.knowing.ViewsKnowledge.first_uncovered.Goals as goal

pub returns : goal.returns
unfolding Keeps
returns g c = each _ (λ s h kept.
    first_uncovered_of s h c.args.parent c.args.view c.first_uncovered.result
    (first-uncovered s h c.args.self.now.coverage c.args.parent c.args.view c.first_uncovered.result kept.coverage c.first_uncovered.ensures.first c.first_uncovered.ensures.none))
