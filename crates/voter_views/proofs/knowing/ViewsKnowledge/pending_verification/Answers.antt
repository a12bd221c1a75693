use Rattle.std.proofs.Common.{sym, ◌∙◌}
use Rattle.std.proofs.lemmas.Bool.{both_ways}
use Rattle.voter_history.specs.History.{is_marked}
use Rattle.voter_history.specs.Known.{backs}
use Rattle.voter_views.specs.Views.{Keeps}
use Rattle.voter_views.proofs.Showing.{allows_verify, each, may_verify, unheld}
use Rattle.voter_views.proofs.knowing.ViewsKnowledge.pending_verification.Goals as goal

pub returns-then-contains : goal.returns-then-contains
unfolding Keeps
returns-then-contains g c = each _ (λ s h kept p allows. both_ways c.contains.result (c.contains.ensures (is_marked s backs h) kept.backed ∙ allows.not_backed) c.if-contains.true)

pub returns-in-None : goal.returns-in-None
returns-in-None g c = each _ (λ s h kept p allows. unheld s h c.args.view (c.in-None.ensures.value s h kept).0 p allows.held)

pub returns-in-None-pending_verification : goal.returns-in-None-pending_verification
returns-in-None-pending_verification g c = each _ (λ s h kept p allows.
    c.pending_verification.ensures.none _ _ _ (c.in-Some.ensures.value s h kept).1 c.in-None-pending_verification.is (may_verify s h c.args.view _ p (c.in-Some.ensures.own s h kept) allows))

pub returns-in-Some-pending_verification : goal.returns-in-Some-pending_verification
unfolding Keeps
returns-in-Some-pending_verification g c = each _ (λ s h kept.
    let found = c.in-Some-pending_verification.ensures.some _ _ _ (c.in-Some.ensures.value s h kept).1 in
    allows_verify s h c.args.view _ c.in-Some-pending_verification.proposal (c.in-Some.ensures.own s h kept) (sym (c.contains.ensures (is_marked s backs h) kept.backed) ∙ c.if-contains.false) found.0 found.2)
