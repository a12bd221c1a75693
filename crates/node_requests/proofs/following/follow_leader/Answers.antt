use Rattle.std.proofs.Common.{◌≡◌, ◌+◌, ◌<◌, ◌^◌, subst, sym, arith}
use Rattle.simplex_member.specs.Layers.{voter_of}
use Rattle.node_requests.proofs.GivenUp.{NoneBelow, none_at_all, none_behind, none_past, none_to}
use Rattle.node_requests.proofs.following.follow_leader.Goals as goal

pub views-init : goal.views-init
views-init g c = λ s h f me now k a. (subst (λ n. NoneBelow g.S.Scheme f s h n) (sym (c.current_view-next.ensures s.voter (voter_of s h) k)) (none_behind g.S.Scheme f s h), k)

pub views-preserved : goal.views-preserved
views-preserved g c = λ s h f me now k a.
    let (none, kept) = c.views.invariant s h f me now k a in
    let tracked = c.in-Some.ensures.tracked s.voter (voter_of s h) (c.views-in-views.ensures s.voter (voter_of s h) kept) in
    let first = rw c.in-Ok-false.field-0-test at (c.in-Ok-false.ensures.follows s h f me now kept a) in (
      subst (λ n. NoneBelow g.S.Scheme f s h n) (sym c.next-next.ensures)
          (none_past g.S.Scheme f s h c.in-Some.view (none_to g.S.Scheme f s h c.views.next c.in-Some.view none tracked.bare) first.0),
      first.1,
    )

pub returns-in-Ok-true-clause-follows : goal.returns-in-Ok-true-clause-follows
returns-in-Ok-true-clause-follows g c = λ s h f me now k a.
    let (none, kept) = c.views.invariant s h f me now k a in
    (c.in-Some.view, rw c.in-Ok-true.field-0-test at (c.in-Ok-true.ensures.follows s h f me now kept a))

pub returns-then-get-clause-follows : goal.returns-then-get-clause-follows
returns-then-get-clause-follows g c = λ s h f me now k a.
    let (none, kept) = c.views.invariant s h f me now k a in
    let long : 0 < s.voter.length = rw (c.lookahead.ensures.length s.voter (voter_of s h) (c.views-2.ensures s.voter (voter_of s h) k)) at c.get-views.ensures.at_least_one in
    let last : c.in-Some.view + 1 ≡ 2 ^ 64 = omega (arith, c.get.ensures.value) in
    let tracked = c.in-Some.ensures.tracked s.voter (voter_of s h) (c.views-in-views.ensures s.voter (voter_of s h) kept) in
    let first = rw c.in-Ok-false.field-0-test at (c.in-Ok-false.ensures.follows s h f me now kept a) in (
      none_at_all g.S.Scheme f s h long (λ view some. c.kept_votes_came_up.ensures s c.args.acceptance.now h view a some) (subst (λ n. NoneBelow g.S.Scheme f s h n) last
          (none_past g.S.Scheme f s h c.in-Some.view (none_to g.S.Scheme f s h c.views.next c.in-Some.view none tracked.bare) first.0)),
      first.1,
    )

pub returns-clause-follows : goal.returns-clause-follows
returns-clause-follows g c = λ s h f me now k a.
    let (none, kept) = c.views.invariant s h f me now k a in
    let long : 0 < s.voter.length = rw (c.lookahead.ensures.length s.voter (voter_of s h) (c.views-2.ensures s.voter (voter_of s h) k)) at c.get-views.ensures.at_least_one in
    let bare = c.in_default.ensures.tracked s.voter (voter_of s h) (c.views-in-views.ensures s.voter (voter_of s h) kept) in
    (none_at_all g.S.Scheme f s h long (λ view some. c.kept_votes_came_up.ensures s c.args.acceptance.now h view a some) (none_to g.S.Scheme f s h c.views.next (2 ^ 64) none bare), kept)

pub returns-in-Err-clause-without_memory : goal.returns-in-Err-clause-without_memory
returns-in-Err-clause-without_memory g c = λ s h f me now k a stay.
    let (none, kept) = c.views.invariant s h f me now k a in
    absurd (cc (c.in-Err.ensures.without_memory s h f me kept a (stay c.in-Some.view)))
