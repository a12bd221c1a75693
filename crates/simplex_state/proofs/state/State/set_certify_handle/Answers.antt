use Rattle.std.proofs.Common.{inl, inr, refl}
use Rattle.std.proofs.lemmas.Bool.{both_ways}
use Rattle.std.proofs.lemmas.Result.{on_ok_weaker}
use Rattle.voter_history.specs.History.{certify_asked}
use Rattle.simplex_state.specs.State.{Keeps}
use Rattle.simplex_state.proofs.Keeping.{keeps_still}
use Rattle.simplex_state.proofs.state.State.set_certify_handle.Goals as goal

pub returns-then-not-is_tracked : goal.returns-then-not-is_tracked
unfolding Keeps
returns-then-not-is_tracked g c = λ s h k. inr (λ there. both_ways c.is_tracked.result c.if-not-is_tracked.true ((c.is_tracked.ensures s h k.views).1 there), k)

pub returns : goal.returns
unfolding Keeps
returns g c = on_ok_weaker c.set_certify_handle.result
    (λ moved s h k. inl (
      (c.is_tracked.ensures s h k.views).0 c.if-not-is_tracked.false,
      keeps_still g.S.Scheme g.L.Elector s h _ _ k (certify_asked c.args.view c.args.handle) refl tt tt (moved s h k.views),
    ))
    c.set_certify_handle.ensures
