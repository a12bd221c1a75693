use Rattle.std.proofs.Common.{inl, inr, refl}
use Rattle.std.proofs.lemmas.Bool.{both_ways}
use Rattle.std.proofs.lemmas.Result.{IfOk-from_err, IfOk-weaker, on_ok_weaker}
use Rattle.voter_history.specs.History.{unbound}
use Rattle.voter_views.specs.ShowsKnown as shown
use Rattle.simplex_state.specs.State.{Keeps}
use Rattle.simplex_state.proofs.Keeping.{keeps_still}
use Rattle.simplex_state.proofs.state.State.verification_failed.Goals as goal

pub returns-clause-keeps : goal.returns-clause-keeps
unfolding Keeps
returns-clause-keeps g c = λ s h k.
    inr (
      λ steady. both_ways c.is_steady.result c.if-is_steady.false ((c.is_steady.ensures _ _ (shown.at s h k.views)).1 steady),
      keeps_still g.S.Scheme g.L.Elector s h _ _ k (unbound c.args.view) refl tt tt (c.in_ok-clear_verifying.ensures s h k.views),
    )

pub returns-clause-answer : goal.returns-clause-answer
unfolding Keeps
returns-clause-answer g c = λ s h k.
    (λ never. absurd (cc (never)), λ is. absurd (both_ways c.is_steady.result c.if-is_steady.false ((c.is_steady.ensures _ _ (shown.at s h k.views)).1 is.0)))

pub returns-in_err-clear_verifying-clause-keeps : goal.returns-in_err-clear_verifying-clause-keeps
returns-in_err-clear_verifying-clause-keeps g c = IfOk-from_err c.from_residual.result _ c.from_residual.ensures.0

pub returns-in_err-clear_verifying-clause-answer : goal.returns-in_err-clear_verifying-clause-answer
returns-in_err-clear_verifying-clause-answer g c = IfOk-from_err c.from_residual.result _ c.from_residual.ensures.0

pub returns-then-is_steady-clause-keeps : goal.returns-then-is_steady-clause-keeps
unfolding Keeps
returns-then-is_steady-clause-keeps g c = on_ok_weaker c.trigger_timeout.result
    (λ moved s h k. inl ((c.is_steady.ensures _ _ (shown.at s h k.views)).0 c.if-is_steady.true, moved s h k))
    c.trigger_timeout.ensures.keeps

pub returns-then-is_steady-clause-unchanged : goal.returns-then-is_steady-clause-unchanged
returns-then-is_steady-clause-unchanged g c = IfOk-weaker c.trigger_timeout.result _ _ (λ first same no s h k steady. same no s h k) c.trigger_timeout.ensures.unchanged

pub returns-then-is_steady-clause-answer : goal.returns-then-is_steady-clause-answer
unfolding Keeps
returns-then-is_steady-clause-answer g c = IfOk-weaker c.trigger_timeout.result _ _
    (λ first is s h k. (λ yes. ((c.is_steady.ensures _ _ (shown.at s h k.views)).0 c.if-is_steady.true, (is s h k).0 yes), λ both. (is s h k).1 both.1))
    c.trigger_timeout.ensures.answer

pub returns-clause-unchanged : goal.returns-clause-unchanged
unfolding Keeps
returns-clause-unchanged g c = λ no s h k steady. absurd (both_ways c.is_steady.result c.if-is_steady.false ((c.is_steady.ensures _ _ (shown.at s h k.views)).1 steady))

pub returns-in_err-clear_verifying-clause-unchanged : goal.returns-in_err-clear_verifying-clause-unchanged
returns-in_err-clear_verifying-clause-unchanged g c = IfOk-from_err c.from_residual.result _ c.from_residual.ensures.0
