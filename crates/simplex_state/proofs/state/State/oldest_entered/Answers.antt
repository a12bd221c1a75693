use Rattle.std.proofs.Common.{◌≡◌, ◌+◌, max, arith}
use Rattle.std.proofs.lemmas.Grind.{common_steps}
use Rattle.types_core.specs.Positions.{term_start}
use Rattle.voter_history.specs.History.{current, last_finalized}
use Rattle.simplex_state.specs.State.{Keeps}
use Rattle.simplex_state.proofs.Stalling.{behind_is}
use Rattle.simplex_state.proofs.state.State.oldest_entered.Goals as goal

pub returns : goal.returns
unfolding Keeps
returns g c = λ s h k.
    let at : c.current_view-current.result ≡ current s h = c.current_view-current.ensures s h k.views in
    let finalized = c.last_finalized-finalized.ensures.value s h k.views in
    let fits = c.last_finalized-finalized.ensures.behind s h k.views in
    let behind = behind_is (last_finalized h) c.last_finalized-finalized.result c.get.result c.saturating_add.result c.new-behind.result finalized fits c.get.ensures.value c.saturating_add.ensures c.new-behind.ensures in
    let start : c.start_of_term-start.result ≡ term_start s.length (current s h) = rw at at (c.start_of_term-start.ensures s h k) in
    let low : c.max.result ≡ max (last_finalized h + 1) (term_start s.length (current s h)) = grind (arith, common_steps, c.max.ensures, behind, start) in
    rw (low, at) at (c.first_entered.ensures s h k)
