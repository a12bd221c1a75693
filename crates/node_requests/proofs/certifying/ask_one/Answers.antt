use Rattle.std.proofs.Common.{◌<◌, ◌∙◌, ℕ, sym, subst}
use Rattle.std.proofs.lemmas.Result.{on_ok_weaker}
use Rattle.voter_history.specs.History.{certify_asked}
use Rattle.simplex_state.specs.Known.{AddsIfTracked}
use Rattle.node_requests.proofs.certifying.ask_one.Goals as goal

pub returns-clause-asked : goal.returns-clause-asked
returns-clause-asked g c = on_ok_weaker c.hand_out.result (λ done. λ s h k.
    let p = c.args.proposal in
    subst (λ (t : ℕ). AddsIfTracked g.S.Scheme g.L.Elector s c.set_certify_handle.new.self h p.round.view (certify_asked p.round.view (record { 0 = t }))) (c.get.ensures.value ∙ c.view-view.ensures)
    (subst (λ (v : ℕ). AddsIfTracked g.S.Scheme g.L.Elector s c.set_certify_handle.new.self h v (certify_asked v (record { 0 = c.get.result }))) c.view-view.ensures (c.in-Ok.ensures s h k))) c.hand_out.ensures.done

pub returns-clause-keeps : goal.returns-clause-keeps
returns-clause-keeps g c = on_ok_weaker c.hand_out.result (λ done. λ low h k above.
    c.in-Ok-add_verdict.ensures.keeps low h k c.args.proposal (sym c.view-view.ensures) (subst (λ (v : ℕ). low < v) (sym c.view-view.ensures) above)) c.hand_out.ensures.done
