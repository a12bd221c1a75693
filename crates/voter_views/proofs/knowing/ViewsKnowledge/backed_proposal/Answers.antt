use Rattle.std.proofs.Common.{sym, ◌∙◌}
use Rattle.std.proofs.lemmas.Bool.{both_ways, iff_false}
use Rattle.voter_views.proofs.Showing.{backed_by, each, unverified}
use Rattle.voter_views.proofs.knowing.ViewsKnowledge.backed_proposal.Goals as goal
use Rattle.voter_views.proofs.knowing.ViewsKnowledge.backed_proposal.Goals.{in_default-via-in-Some+then-broadcast_notarize+else-is_verified, in_default-via-in-Some+else-broadcast_notarize, in_default-via-in_default}

pub returns-in-Some : goal.returns-in-Some
returns-in-Some g c = each _ (λ s h kept.
    let round = (c.in-Some.ensures.value s h kept).1 in
    backed_by s h c.args.view c.proposal.result (c.proposal.ensures _ _ _ round) (sym (c.broadcast_notarize.ensures _ _ _ round) ∙ c.if-broadcast_notarize.true)
    ((c.is_verified.ensures _ _ _ round).0 c.if-is_verified.true))

pub returns-in_default : goal.returns-in_default
returns-in_default g c = each _ (λ s h kept backed. elim c.in_default.branch [
  | in_default-via-in-Some+then-broadcast_notarize+else-is_verified w ↦
      iff_false (w.is_verified.ensures _ _ _ (w.in-Some.ensures.value s h kept).1) w.if-is_verified.false backed.verified
  | in_default-via-in-Some+else-broadcast_notarize w ↦
      both_ways w.broadcast_notarize.result w.if-broadcast_notarize.false (w.broadcast_notarize.ensures _ _ _ (w.in-Some.ensures.value s h kept).1 ∙ backed.voted)
  | in_default-via-in_default w ↦ unverified s h c.args.view (w.in_default.ensures.value s h kept).0 backed.verified
])
