use Rattle.std.proofs.Common.{refl}
use Rattle.voter_history.specs.History.{based}
use Rattle.simplex_state.specs.State.{Keeps}
use Rattle.simplex_state.proofs.Keeping.{keeps_still}
use Rattle.simplex_state.proofs.state.State.base.Goals as goal

pub returns : goal.returns
unfolding Keeps
returns g c = λ s h k. keeps_still g.S.Scheme g.L.Elector s h _ _ k (based c.args.view) refl tt tt (c.base.ensures s h k.views)
