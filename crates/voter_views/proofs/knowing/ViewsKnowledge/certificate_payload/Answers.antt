use Rattle.std.proofs.Common.{◌∙◌, refl}
use Rattle.voter_views.proofs.Showing.{certificate_payload_of, each}
use Rattle.voter_views.proofs.knowing.ViewsKnowledge.certificate_payload.Goals as goal

pub returns-in-Some : goal.returns-in-Some
returns-in-Some g c = each _ (λ s h kept. c.certificate_ancestry_payload.ensures _ _ _ (c.in-Some.ensures.value s h kept).1 ∙ certificate_payload_of s h c.args.view)

pub returns-in-None : goal.returns-in-None
returns-in-None g c = each _ (λ s h kept. rw (c.in-None.ensures.value s h kept).0 refl)
