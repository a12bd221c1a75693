use Rattle.std.proofs.Common.{◌≡◌, ◌+◌, ◌^◌, arith}
use Rattle.std.proofs.lemmas.Bool.{both_ways}
use Rattle.voter_history.specs.Known.{known}
use Rattle.voter_rules.specs.Ancestry.{member}
use Rattle.voter_rules.specs.VotesDue.{FinalizeIsDue}
use Rattle.voter_views.specs.ShowsKnown as shown
use Rattle.simplex_state.specs.State.{Keeps}
use Rattle.simplex_state.proofs.Owing.{none_at_all, none_before, none_through, finalizes_owed, finalize_fits}
use Rattle.simplex_state.proofs.state.State.next_finalize.Goals as goal

pub views-init : goal.views-init
unfolding Keeps
views-init g c = λ s h k u below due. let at = c.last_finalized-next.ensures.value s h k.views in let above = due.above in absurd (omega (arith, below, at, above))

pub views-preserved : goal.views-preserved
unfolding Keeps
views-preserved g c = λ s h k u below.
    let some = rw (c.lookahead.ensures.length s h k.views) at c.get-views.ensures.at_least_one in
    none_through s h some c.args.self.now.finalizes (FinalizeIsDue (member s) (known s h)) (finalizes_owed s h some c.args.self.now.finalizes k.finalizes) c.views.next c.in-Some.view (c.views.invariant s h k) c.in-Some.ensures.first
    (λ due. both_ways c.finalize_is_due.result c.if-finalize_is_due.false ((c.finalize_is_due.ensures _ _ (shown.at s h k.views)).1 due)) u (omega (arith, below, c.next-next.ensures))

pub returns-then-finalize_is_due : goal.returns-then-finalize_is_due
unfolding Keeps
returns-then-finalize_is_due g c = λ s h k.
    let some = rw (c.lookahead.ensures.length s h k.views) at c.get-views.ensures.at_least_one in
    record {
      due = (c.finalize_is_due.ensures _ _ (shown.at s h k.views)).0 c.if-finalize_is_due.true;
      lowest = none_before s h some c.args.self.now.finalizes (FinalizeIsDue (member s) (known s h)) (finalizes_owed s h some c.args.self.now.finalizes k.finalizes) c.views.next c.in-Some.view (c.views.invariant s h k) c.in-Some.ensures.first;
    }

pub returns-then-get : goal.returns-then-get
unfolding Keeps
returns-then-get g c = λ s h k.
    let some = rw (c.lookahead.ensures.length s h k.views) at c.get-views.ensures.at_least_one in
    let last : c.in-Some.view + 1 ≡ 2 ^ 64 = omega (arith, c.get.ensures.value) in
    finalize_fits s h some c.in-Some.view last
    (none_through s h some c.args.self.now.finalizes (FinalizeIsDue (member s) (known s h)) (finalizes_owed s h some c.args.self.now.finalizes k.finalizes) c.views.next c.in-Some.view (c.views.invariant s h k) c.in-Some.ensures.first
    (λ due. both_ways c.finalize_is_due.result c.if-finalize_is_due.false ((c.finalize_is_due.ensures _ _ (shown.at s h k.views)).1 due)))

pub returns : goal.returns
unfolding Keeps
returns g c = λ s h k.
    let some = rw (c.lookahead.ensures.length s h k.views) at c.get-views.ensures.at_least_one in
    none_at_all s h some c.args.self.now.finalizes (FinalizeIsDue (member s) (known s h)) (finalizes_owed s h some c.args.self.now.finalizes k.finalizes) c.views.next (c.views.invariant s h k) c.in_default.ensures.first
