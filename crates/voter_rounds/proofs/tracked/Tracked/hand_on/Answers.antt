use Rattle.std.proofs.Common.{◌≡◌, ◌≤◌, ◌<◌, ◌+◌, ◌-◌, ◌^◌, ◌∙◌, ℕ, true, arith, sym}
use Rattle.std.specs.Prelude.{Bool}
use Rattle.std.specs.Ordering.{nat_cmp, is_le}
use Rattle.std.proofs.lemmas.Map.Keys.{le_from_is_le}
use Rattle.voter_rounds.specs.Tracked.{Holds, inherits_by, handed_on}
use Rattle.voter_history.specs.Leaders.{extend}
use Rattle.voter_rounds.specs.Laws.{IsKept-led}
use Rattle.voter_rounds.proofs.Dropping.{next_fits}
use Rattle.voter_rounds.proofs.Leading.{further, handed-on-all, handed-on-over, handed-on-within}
use Rattle.voter_rounds.proofs.tracked.Tracked.hand_on.Goals as goal

-- a test says that a number is at most another
at_most : (a b : ℕ) {r : Bool} → r ≡ is_le (nat_cmp a b) → r ≡ true → a ≤ b
at_most a b test so = le_from_is_le a b (sym test ∙ so)

-- no view with a number lies behind the last one
up_to_last : (u view number : ℕ) → u < 2 ^ 64 → number ≡ view → 2 ^ 64 - 1 ≤ number → u < view + 1
up_to_last u view number fits is last = omega arith

pub views-init : goal.views-init
unfolding Holds
views-init g c = record { after = omega arith; holds = λ f t k here known b. IsKept-led (handed_on here (inherits_by f t) known c.args.first) k (λ u fits. b.led u) }

pub views-preserved : goal.views-preserved
unfolding Holds
views-preserved g c = record {
  after = omega (arith, c.views.invariant.after, c.next_heir-view.ensures.ahead);
  holds = λ f t k here known b.
      let so_far = c.views.invariant.holds f t k here known b in
      let kept = c.in_ok-learnt.ensures.keeps f (record t { led = handed_on here (inherits_by f t) known c.views.view }) so_far in
      IsKept-led {t = further f t here known c.views.view} (handed_on here (inherits_by f t) known c.next_heir-view.result) kept
      (λ u fits. handed-on-over here (inherits_by f t) known c.views.view c.next_heir-view.result (b.unnamed c.views.view c.views.invariant.after)
      (λ v above. b.unnamed v (omega (arith, above, c.views.invariant.after))) c.next_heir-view.ensures.ahead
      (c.next_heir-view.ensures.bare f (further f t here known c.views.view) kept) u);
}

pub returns-then-le : goal.returns-then-le
unfolding Holds
returns-then-le g c = λ f t k here known b.
    let so_far = c.views.invariant.holds f t k here known b in
    let kept = c.in_ok-learnt.ensures.keeps f (record t { led = handed_on here (inherits_by f t) known c.views.view }) so_far in
    let still = c.in_ok-learnt.ensures.answer f (record t { led = handed_on here (inherits_by f t) known c.views.view }) so_far c.if-not-learnt.true in
    IsKept-led {t = further f t here known c.views.view} (extend here (inherits_by f t) known) kept
    (λ u fits. handed-on-all here (inherits_by f t) known c.args.first c.args.last c.views.view u c.views.invariant.after (at_most c.args.last c.views.view c.le.ensures c.if-le.true) b.unnamed
    (λ w from below. b.closed w from (next_fits w u below fits)) still)

pub returns : goal.returns
unfolding Holds
returns g c = λ f t k here known b.
    let so_far = c.views.invariant.holds f t k here known b in
    let none = b.unnamed c.views.view c.views.invariant.after in
    let kept = c.in_ok-_last.ensures.keeps f (record t { led = handed_on here (inherits_by f t) known c.views.view }) so_far in
    IsKept-led {t = further f t here known c.views.view} (extend here (inherits_by f t) known) kept
    (λ u fits. handed-on-within here (inherits_by f t) known c.views.view u none (up_to_last u c.views.view c.get.result fits c.get.ensures.value c.views-test.false))
