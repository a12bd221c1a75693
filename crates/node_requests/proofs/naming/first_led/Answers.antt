use Rattle.std.proofs.Common.{◌≡◌, ◌+◌, ◌<◌, ◌^◌, sym, subst, arith}
use Rattle.simplex_member.specs.Layers.{voter_of}
use Rattle.node_requests.proofs.Unnamed.{NoneBelow, none_at_all, none_past, none_to}
use Rattle.node_requests.proofs.naming.first_led.Goals as goal

pub returns-then-get : goal.returns-then-get
returns-then-get g c = λ s h k a.
    let long : 0 < s.voter.length = rw (c.lookahead.ensures.length s.voter (voter_of s h) (c.views-2.ensures s.voter (voter_of s h) k)) at c.get-views.ensures.at_least_one in
    let last : c.in-Some.view + 1 ≡ 2 ^ 64 = omega (arith, c.get.ensures.value) in
    let unknown = rw c.in_default-leader_index.is at (c.leader_index.ensures s.voter (voter_of s h) (c.views-in-Some.ensures s.voter (voter_of s h) k)) in
    none_at_all s h long (subst (λ n. NoneBelow s h n) last
    (none_past s h c.in-Some.view (none_to s h c.views.next c.in-Some.view (c.views.invariant s h k a) ((rw c.in-Some.is at (c.first_unled.ensures.first s h a)).first)) (sym unknown)))
