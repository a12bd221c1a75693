use Rattle.voter_views.proofs.Showing.{allows_build, each, never, not_there}
use Rattle.voter_views.proofs.knowing.ViewsKnowledge.should_propose.Goals as goal

pub returns-in-Some : goal.returns-in-Some
returns-in-Some g c = each _ (λ s h kept. allows_build s h c.args.view _ c.should_propose.result (c.in-Some.ensures.own s h kept) (c.should_propose.ensures _ _ _ (c.in-Some.ensures.value s h kept).1))

pub returns-in-None : goal.returns-in-None
returns-in-None g c = each _ (λ s h kept. never (λ allows. not_there allows.leads.known (c.in-None.ensures.value s h kept).1 allows.leads.some))
