use Rattle.std.proofs.Common.{sym, ◌∙◌, arith}
use Rattle.voter_views.proofs.Walking.{highest_of, highest_with_start, passed, unexplicit_down, within_both}
use Rattle.voter_views.proofs.looking.last_explicit.Goals as goal

pub views-init : goal.views-init
views-init g c = record { within = omega arith; bare = λ s h kept u from below some. absurd (passed u c.args.view from below) }

pub views-smaller : goal.views-smaller
views-smaller g c = c.in-Some.ensures.before

pub views-preserved : goal.views-preserved
views-preserved g c = record {
  within = within_both c.in-Some.last c.views.end c.args.view c.in-Some.ensures.before c.views.invariant.within;
  bare = λ s h kept. unexplicit_down s h c.in-Some.last c.views.end c.args.view (c.in-Some.ensures.certified s h kept)
      (sym (c.certified_payload.ensures s h kept) ∙ c.in_default-certified_payload.is) (c.views.invariant.bare s h kept);
}

pub returns-in-Some-certified_payload : goal.returns-in-Some-certified_payload
returns-in-Some-certified_payload g c = λ s h kept.
    highest_of s h c.in-Some.last c.views.end c.args.view c.in-Some-certified_payload.payload c.in-Some.ensures.before c.views.invariant.within (c.in-Some.ensures.certified s h kept)
    (sym (c.certified_payload.ensures s h kept) ∙ c.in-Some-certified_payload.is) (c.views.invariant.bare s h kept)

pub returns : goal.returns
returns g c = λ s h kept.
    highest_with_start s h c.views.end c.args.view c.start_below.result (c.in_default.ensures.certified s h kept) (c.views.invariant.bare s h kept) (c.start_below.ensures s h kept)
