use Rattle.std.proofs.Common.{◌≡◌, ◌+◌, ◌^◌, arith}
use Rattle.std.proofs.lemmas.Bool.{both_ways}
use Rattle.voter_views.specs.ShowsKnown as shown
use Rattle.simplex_state.specs.State.{Keeps}
use Rattle.simplex_state.proofs.Lowest.{none_at_all, none_behind, none_past, none_through, none_up_to}
use Rattle.simplex_state.proofs.state.State.first_build.Goals as goal

pub views-init : goal.views-init
unfolding Keeps
views-init g c = record {
  from = λ s h k. let at = c.current_view-next.ensures s h k.views in omega (arith, at);
  none = λ s h k u below. let at = c.current_view-next.ensures s h k.views in none_behind s h u (omega (arith, at, below));
}

pub views-preserved : goal.views-preserved
unfolding Keeps
views-preserved g c = record {
  from = λ s h k. let at = c.views.invariant.from s h k in omega (arith, at, c.in-Some.ensures.behind, c.next-next.ensures);
  none = λ s h k u below. none_through s h c.views.next c.in-Some.view (c.views.invariant.none s h k) (c.in-Some.ensures.tracked s h k.views).bare (c.in_default-build_on.ensures _ _ (shown.at s h k.views)) u (omega (arith, below, c.next-next.ensures));
}

pub returns-then-not-is_outbound : goal.returns-then-not-is_outbound
unfolding Keeps
returns-then-not-is_outbound g c = λ s h k.
    let at = c.views.invariant.from s h k in
    none_past s h c.in-Some.view (omega (arith, at, c.in-Some.ensures.behind)) (none_up_to s h c.views.next c.in-Some.view (c.views.invariant.none s h k) (c.in-Some.ensures.tracked s h k.views).bare)
    (λ out. both_ways c.is_outbound.result c.if-not-is_outbound.true ((c.is_outbound.ensures s h k).1 out))

pub returns-in-Some-build_on : goal.returns-in-Some-build_on
unfolding Keeps
returns-in-Some-build_on g c = λ s h k. record {
  due = c.in-Some-build_on.ensures _ _ (shown.at s h k.views);
  lowest = none_up_to s h c.views.next c.in-Some.view (c.views.invariant.none s h k) (c.in-Some.ensures.tracked s h k.views).bare;
}

pub returns-then-get : goal.returns-then-get
unfolding Keeps
returns-then-get g c = λ s h k.
    let some = rw (c.lookahead.ensures.length s h k.views) at c.get-views.ensures.at_least_one in
    let last : c.in-Some.view + 1 ≡ 2 ^ 64 = omega (arith, c.get.ensures.value) in
    none_at_all s h some (λ u below. none_through s h c.views.next c.in-Some.view (c.views.invariant.none s h k) (c.in-Some.ensures.tracked s h k.views).bare (c.in_default-build_on.ensures _ _ (shown.at s h k.views)) u (omega (arith, below, last)))

pub returns : goal.returns
unfolding Keeps
returns g c = λ s h k.
    let some = rw (c.lookahead.ensures.length s h k.views) at c.get-views.ensures.at_least_one in
    none_at_all s h some (none_up_to s h c.views.next (2 ^ 64) (c.views.invariant.none s h k) (c.in_default.ensures.tracked s h k.views))
