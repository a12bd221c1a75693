use Rattle.voter_views.proofs.Showing.{each, never, unasked}
use Rattle.voter_views.proofs.knowing.ViewsKnowledge.is_requested.Goals as goal

pub returns-in-Some : goal.returns-in-Some
returns-in-Some g c = each _ (λ s h kept. c.is_requested.ensures _ _ _ (c.in-Some.ensures.value s h kept).1)

pub returns-in-None : goal.returns-in-None
returns-in-None g c = each _ (λ s h kept. never (λ asked. unasked s h c.args.view (c.in-None.ensures.value s h kept).0 c.args.missing asked))
