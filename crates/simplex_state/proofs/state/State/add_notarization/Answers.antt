use Rattle.std.proofs.Common.{sym, ap}
use Rattle.std.specs.Prelude.{Some}
use Rattle.std.proofs.lemmas.Result.{IfOk-weaker}
use Rattle.voter_history.specs.History.{notarized}
use Rattle.simplex_state.specs.State.{Keeps}
use Rattle.simplex_state.proofs.Keeping.{keeps_woken_if}
use Rattle.simplex_state.proofs.state.State.add_notarization.Goals as goal

pub returns-clause-keeps : goal.returns-clause-keeps
unfolding Keeps
returns-clause-keeps g c = IfOk-weaker c.add_notarization.result _ _
    (λ r moved s h k. keeps_woken_if g.S.Scheme g.L.Elector s h _ _ k r.0 (notarized c.args.certificate) tt tt c.wake.new.candidates c.view.result (ap Some (sym c.view.ensures)) c.in_ok-wake.ensures (moved s h k.views))
    c.add_notarization.ensures.keeps

pub returns-clause-first : goal.returns-clause-first
unfolding Keeps
returns-clause-first g c = IfOk-weaker c.add_notarization.result _ _ (λ r is s h k. is s h k.views) c.add_notarization.ensures.first

pub returns-clause-again : goal.returns-clause-again
returns-clause-again g c = c.add_notarization.ensures.again

pub returns-clause-replaced : goal.returns-clause-replaced
unfolding Keeps
returns-clause-replaced g c = IfOk-weaker c.add_notarization.result _ _ (λ r is s h k. is s h k.views) c.add_notarization.ensures.replaced

pub returns-clause-same : goal.returns-clause-same
unfolding Keeps
returns-clause-same g c = IfOk-weaker c.add_notarization.result _ _ (λ r is s h k. is s h k.views) c.add_notarization.ensures.same
