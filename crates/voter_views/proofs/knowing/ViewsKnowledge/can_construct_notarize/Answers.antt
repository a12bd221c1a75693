use Rattle.voter_views.proofs.Showing.{allows_notarize, each, never, unverified}
use Rattle.voter_views.proofs.knowing.ViewsKnowledge.can_construct_notarize.Goals as goal

pub returns-in-Some : goal.returns-in-Some
returns-in-Some g c = each _ (λ s h kept. allows_notarize s h c.args.view c.can_construct_notarize.result (c.can_construct_notarize.ensures _ _ _ (c.in-Some.ensures.value s h kept).1))

pub returns-in-None : goal.returns-in-None
returns-in-None g c = each _ (λ s h kept. never (λ allows. unverified s h c.args.view (c.in-None.ensures.value s h kept).0 allows.verified))
