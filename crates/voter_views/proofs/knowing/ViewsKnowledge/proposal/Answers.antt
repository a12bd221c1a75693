use Rattle.std.proofs.Common.{refl}
use Rattle.voter_views.proofs.Showing.{each}
use Rattle.voter_views.proofs.knowing.ViewsKnowledge.proposal.Goals as goal

pub returns-in-Some : goal.returns-in-Some
returns-in-Some g c = each _ (λ s h kept. c.proposal.ensures _ _ _ (c.in-Some.ensures.value s h kept).1)

pub returns-in-None : goal.returns-in-None
returns-in-None g c = each _ (λ s h kept. rw (c.in-None.ensures.value s h kept).0 refl)
