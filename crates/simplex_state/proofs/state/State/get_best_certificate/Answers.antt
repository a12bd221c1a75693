use Rattle.std.proofs.Common.{◌≡◌, ◌-◌, refl, arith}
use Rattle.std.proofs.lemmas.Result.{IfOk-weaker}
use Rattle.simplex_state.specs.State.{Keeps}
use Rattle.simplex_state.proofs.Entering.{best_of, entered_at_start, positive}
use Rattle.simplex_state.proofs.state.State.get_best_certificate.Goals as goal

pub returns-in_default : goal.returns-in_default
unfolding Keeps
returns-in_default g c = λ s h k.
    let at = c.current_view-view.ensures s h k.views in
    best_of s h c.current_view-view.result (c.current_view-view.result - 1) _ at refl (entered_at_start s h _ _ (let none : c.current_view-view.result ≡ 0 = c.in_default.ensures.none.0 refl in omega (arith, none)))

pub returns-then-is_zero : goal.returns-then-is_zero
unfolding Keeps
returns-then-is_zero g c = λ s h k.
    let at = c.current_view-view.ensures s h k.views in
    best_of s h c.current_view-view.result c.in-Some.before _ at c.in-Some.ensures.before (entered_at_start s h _ _ (c.is_zero.ensures.0 c.if-is_zero.true))

pub returns : goal.returns
unfolding Keeps
returns g c = IfOk-weaker c.entry_certificate.result _ _
    (λ best is s h k.
    let at = c.current_view-view.ensures s h k.views in
    best_of s h c.current_view-view.result c.in-Some.before _ at c.in-Some.ensures.before (is s h k (positive c.in-Some.before c.is_zero.result c.is_zero.ensures c.if-is_zero.false)))
    c.entry_certificate.ensures
