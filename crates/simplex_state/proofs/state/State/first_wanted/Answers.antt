use Rattle.std.proofs.Common.{◌≡◌, ◌+◌, ◌^◌, sym, subst, arith}
use Rattle.std.proofs.lemmas.Bool.{both_ways}
use Rattle.types_terms.specs.Windows.{AdmitsOutbound}
use Rattle.voter_rules.specs.Requests.{begun}
use Rattle.simplex_state.specs.Resuming.{first_looked}
use Rattle.simplex_state.specs.State.{Keeps}
use Rattle.simplex_state.proofs.Looking.{looked_from, looked_to, looks_on, passes_all, passes_last, passes_rest, whole_before}
use Rattle.simplex_state.proofs.state.State.first_wanted.Goals as goal

pub views-init : goal.views-init
unfolding Keeps
views-init g c = record {
  from = c.first_looked-next.ensures.from;
  looks = λ s h k. let at = c.first_looked-next.ensures.value s h k in (h, omega (arith, at), rw at begun, k);
}

pub views-preserved : goal.views-preserved
unfolding Keeps
views-preserved g c = record {
  from = omega (arith, c.views.invariant.from, c.in-Some.ensures.behind, c.next-next.ensures);
  looks = λ s h k.
      let (end, from, looked, kept) = c.views.invariant.looks s h k in
      looks_on g.S.Scheme g.L.Elector s _ c.args.now h c.args.from end c.views.next c.in-Some.view c.next-next.result from c.in-Some.ensures.behind c.next-next.ensures
      (looked_to s c.args.now h (first_looked s h c.args.from) end c.views.next c.in-Some.view c.in-Some.ensures.behind looked (c.in-Some.ensures.tracked s end kept.views).bare)
      (rw c.in_default-found.is at (c.in_ok-found.ensures s end kept));
}

pub returns-then-not-is_outbound-clause-found : goal.returns-then-not-is_outbound-clause-found
unfolding Keeps
returns-then-not-is_outbound-clause-found g c = λ s h k.
    let (end, from, looked, kept) = c.views.invariant.looks s h k in
    let to = looked_to s c.args.now h (first_looked s h c.args.from) end c.views.next c.in-Some.view c.in-Some.ensures.behind looked (c.in-Some.ensures.tracked s end kept.views).bare in
    passes_all g.S.Scheme g.L.Elector s _ c.args.now h c.args.from c.a_look_leaves_nothing_to_ask.ensures.passed end
    (whole_before s c.args.now h (first_looked s h c.args.from) end c.in-Some.view (omega (arith, from, c.in-Some.ensures.behind)) to
    (λ out. both_ways c.is_outbound.result c.if-not-is_outbound.true
    ((c.is_outbound.ensures s end kept).1 (subst (λ at. AdmitsOutbound s.length s.optimistic_views at c.in-Some.view) (sym (looked_from s c.args.now h (first_looked s h c.args.from) looked)) out))))
    kept

pub returns-in-Some-found-clause-found : goal.returns-in-Some-found-clause-found
unfolding Keeps
returns-in-Some-found-clause-found g c = λ s h k.
    let (end, from, looked, kept) = c.views.invariant.looks s h k in
    let to = looked_to s c.args.now h (first_looked s h c.args.from) end c.views.next c.in-Some.view c.in-Some.ensures.behind looked (c.in-Some.ensures.tracked s end kept.views).bare in
    record { end = end; looked = to; holds = rw c.in-Some-found.is at (c.in_ok-found.ensures s end kept) }

pub returns-in-Some-found-clause-rises : goal.returns-in-Some-found-clause-rises
returns-in-Some-found-clause-rises g c = omega (arith, c.views.invariant.from, c.in-Some.ensures.behind)

pub returns-then-get-clause-found : goal.returns-then-get-clause-found
unfolding Keeps
returns-then-get-clause-found g c = λ s h k.
    let (end, from, looked, kept) = c.views.invariant.looks s h k in
    let last : c.in-Some.view + 1 ≡ 2 ^ 64 = omega (arith, c.get.ensures.value) in
    passes_last g.S.Scheme g.L.Elector s _ c.args.now h c.args.from c.a_look_leaves_nothing_to_ask.ensures.passed end c.in-Some.view (rw (c.lookahead.ensures.length s h k.views) at c.get-views.ensures.at_least_one) last
    (looked_to s c.args.now h (first_looked s h c.args.from) end c.views.next c.in-Some.view c.in-Some.ensures.behind looked (c.in-Some.ensures.tracked s end kept.views).bare)
    (rw c.in_default-found.is at (c.in_ok-found.ensures s end kept))

pub returns-clause-found : goal.returns-clause-found
unfolding Keeps
returns-clause-found g c = λ s h k.
    let (end, from, looked, kept) = c.views.invariant.looks s h k in
    passes_rest g.S.Scheme g.L.Elector s _ c.args.now h c.args.from c.a_look_leaves_nothing_to_ask.ensures.passed end c.views.next (rw (c.lookahead.ensures.length s h k.views) at c.get-views.ensures.at_least_one) looked (c.in_default.ensures.tracked s end kept.views) kept
