use Rattle.std.proofs.Common.{◌≡◌, ℕ, sym, ◌∙◌, subst, arith}
use Rattle.std.specs.Prelude.{Some, None}
use Rattle.std.proofs.lemmas.Bool.{iff_false}
use Rattle.std.proofs.lemmas.Option.{none-some}
use Rattle.voter_history.specs.Leaders.{handoff_leader}
use Rattle.voter_views.specs.Views.{Keeps}
use Rattle.voter_views.proofs.Heirs.{heir-another, heir-inside, heir-named, heir-unscheduled, scheduled-member}
use Rattle.voter_views.proofs.views.Views.handoff_leader.Goals as goal

pub returns-then-get-eq18446744073709551615-clause-value : goal.returns-then-get-eq18446744073709551615-clause-value
returns-then-get-eq18446744073709551615-clause-value g c = λ s h k fits. absurd (omega (arith, fits))

pub returns-then-get-eq18446744073709551615-clause-member : goal.returns-then-get-eq18446744073709551615-clause-member
returns-then-get-eq18446744073709551615-clause-member g c = λ s h k i is. absurd (none-some i is)

pub returns-then-not-is_term_start-clause-value : goal.returns-then-not-is_term_start-clause-value
unfolding Keeps
returns-then-not-is_term_start-clause-value g c = λ s h k fits.
    subst (λ (u : ℕ). None ≡ handoff_leader s u) c.next-next.ensures (heir-inside s c.next-next.result (rw k.length at (iff_false c.is_term_start.ensures c.if-not-is_term_start.true)))

pub returns-then-not-is_term_start-clause-member : goal.returns-then-not-is_term_start-clause-member
returns-then-not-is_term_start-clause-member g c = λ s h k i is. absurd (none-some i is)

pub returns-in_err-leader-clause-value : goal.returns-in_err-leader-clause-value
returns-in_err-leader-clause-value g c = λ s h k fits.
    rw c.from_residual.ensures
    (subst (λ (u : ℕ). None ≡ handoff_leader s u) c.next-next.ensures (heir-unscheduled s c.next-next.result (sym (c.scheduled_leader.ensures s h k) ∙ c.in_err-leader.was)))

pub returns-in_err-leader-clause-member : goal.returns-in_err-leader-clause-member
returns-in_err-leader-clause-member g c = λ s h k. rw c.from_residual.ensures (λ i is. absurd (none-some i is))

pub returns-then-not-is_me-clause-value : goal.returns-then-not-is_me-clause-value
returns-then-not-is_me-clause-value g c = λ s h k fits.
    subst (λ (u : ℕ). None ≡ handoff_leader s u) c.next-next.ensures
    (heir-another s c.next-next.result c.in_ok-leader.leader (sym (c.scheduled_leader.ensures s h k) ∙ c.in_ok-leader.was) (iff_false (c.is_me.ensures s h k) c.if-not-is_me.true))

pub returns-then-not-is_me-clause-member : goal.returns-then-not-is_me-clause-member
returns-then-not-is_me-clause-member g c = λ s h k i is. absurd (none-some i is)

pub returns-clause-value : goal.returns-clause-value
unfolding Keeps
returns-clause-value g c = λ s h k fits.
    subst (λ (u : ℕ). Some c.in_ok-leader.leader ≡ handoff_leader s u) c.next-next.ensures
    (heir-named s c.next-next.result c.in_ok-leader.leader (rw k.length at (c.is_term_start.ensures.0 c.if-not-is_term_start.false))
    (sym (c.scheduled_leader.ensures s h k) ∙ c.in_ok-leader.was) ((c.is_me.ensures s h k).0 c.if-not-is_me.false))

pub returns-clause-member : goal.returns-clause-member
unfolding Keeps
returns-clause-member g c = λ s h k i is. scheduled-member k c.next-next.result i (sym (c.scheduled_leader.ensures s h k) ∙ c.in_ok-leader.was ∙ is)
