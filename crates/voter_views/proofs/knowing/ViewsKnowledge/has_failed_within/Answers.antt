use Rattle.voter_views.proofs.Showing.{each, failed_within}
use Rattle.voter_views.proofs.knowing.ViewsKnowledge.has_failed_within.Goals as goal

pub returns : goal.returns
returns g c = each _ (λ s h kept. failed_within s h c.args.first c.args.end c.any_within.result (c.any_within.ensures _ (c.bearing.ensures s h kept)))
