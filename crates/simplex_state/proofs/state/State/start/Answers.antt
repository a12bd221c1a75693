use Rattle.std.proofs.Common.{sym, ◌∙◌}
use Rattle.std.proofs.lemmas.Option.{same_Some}
use Rattle.std.proofs.lemmas.Result.{on_ok_weaker}
use Rattle.voter_history.specs.History.{started}
use Rattle.simplex_state.specs.State.{Keeps}
use Rattle.simplex_state.proofs.Keeping.{keeps_woken}
use Rattle.simplex_state.proofs.state.State.start.Goals as goal

pub returns : goal.returns
unfolding Keeps
returns g c = on_ok_weaker c.start.result
    (λ moved s h k. keeps_woken g.S.Scheme g.L.Elector s h _ _ k (started c.args.now c.args.payload) tt tt c.wake.new.candidates c.zero.result (λ u is. sym (same_Some 0 u is) ∙ sym c.zero.ensures) c.in_ok-wake.ensures (moved s h k.views))
    c.start.ensures
