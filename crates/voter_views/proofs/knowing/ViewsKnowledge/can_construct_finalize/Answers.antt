use Rattle.voter_views.proofs.Showing.{allows_finalize, each, never, unnotarized}
use Rattle.voter_views.proofs.knowing.ViewsKnowledge.can_construct_finalize.Goals as goal

pub returns-in-Some : goal.returns-in-Some
returns-in-Some g c = each _ (λ s h kept. allows_finalize s h c.args.view c.can_construct_finalize.result (c.can_construct_finalize.ensures _ _ _ (c.in-Some.ensures.value s h kept).1))

pub returns-in-None : goal.returns-in-None
returns-in-None g c = each _ (λ s h kept. never (λ allows. unnotarized s h c.args.view (c.in-None.ensures.value s h kept).0 allows.notarized))
