use Rattle.std.proofs.Common.{◌∷◌, false, true, refl}
use Rattle.std.proofs.lemmas.Result.{IfOk-weaker, on_ok_weaker}
use Rattle.voter_history.specs.History.{pruned}
use Rattle.simplex_state.specs.State.{Keeps}
use Rattle.simplex_state.proofs.Keeping.{keeps_by}
use Rattle.simplex_state.proofs.Owing.{owed_kept}
use Rattle.simplex_state.proofs.Waking.{stays}
use Rattle.simplex_state.proofs.state.State.prune.Goals as goal

pub returns-clause-keeps : goal.returns-clause-keeps
unfolding Keeps
returns-clause-keeps g c = on_ok_weaker c.prune.result
    (λ moved s h k.
    let floor = c.min_active-floor.ensures s h k.views in
    keeps_by g.S.Scheme g.L.Elector s h c.args.self.now _ k (pruned ∷ h) c.args.self.now.candidates c.forget_below.new.self c.forget_below-2.new.self
    (stays s h pruned c.args.self.now.candidates refl k.candidates)
    (owed_kept s h false c.min_active-floor.result c.args.self.now.notarizes c.forget_below.new.self floor c.forget_below.ensures.kept k.notarizes)
    (owed_kept s h true c.min_active-floor.result c.args.self.now.finalizes c.forget_below-2.new.self floor c.forget_below-2.ensures.kept k.finalizes)
    (moved s h k.views))
    c.prune.ensures.keeps

pub returns-clause-dropped : goal.returns-clause-dropped
unfolding Keeps
returns-clause-dropped g c = IfOk-weaker c.prune.result _ _ (λ r is s h k. is s h k.views) c.prune.ensures.dropped
