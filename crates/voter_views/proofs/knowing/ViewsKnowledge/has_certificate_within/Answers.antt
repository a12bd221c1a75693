use Rattle.voter_views.proofs.Showing.{certificate_within, each}
use Rattle.voter_views.proofs.knowing.ViewsKnowledge.has_certificate_within.Goals as goal

pub returns : goal.returns
returns g c = each _ (λ s h kept. certificate_within s h c.args.first c.args.end c.any_within.result (c.any_within.ensures _ (c.bearing.ensures s h kept)))
