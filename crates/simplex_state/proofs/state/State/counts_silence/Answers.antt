use Rattle.std.proofs.Common.{◌∙◌, sym, subst}
use mathlib.Core.Bool.{true≢false}
use Rattle.std.specs.Prelude.{◌↔◌, IsTrue}
use Rattle.voter_rules.specs.GivingUp.{MayLatch}
use Rattle.voter_history.specs.declared.timeout_reason.TimeoutReason.TheVariants as reason
use Rattle.simplex_state.specs.State.{Keeps}
use Rattle.simplex_state.proofs.state.State.counts_silence.Goals as goal

pub returns-then-not-has_skip_budget : goal.returns-then-not-has_skip_budget
unfolding Keeps
returns-then-not-has_skip_budget g c = λ s h k. (λ never. absurd (cc never), λ may. absurd (true≢false (sym may.0 ∙ sym (c.has_skip_budget.ensures s h k) ∙ c.if-not-has_skip_budget.true)))

pub returns : goal.returns
unfolding Keeps
returns g c = λ s h k.
    let test = subst (λ view. IsTrue c.may_latch.result ↔ MayLatch s h view reason.Inactivity) (c.current_view.ensures s h k.views) (c.may_latch.ensures s h k) in
    (λ yes. (sym (c.has_skip_budget.ensures s h k) ∙ c.if-not-has_skip_budget.false, test.0 yes), λ may. test.1 may.1)
