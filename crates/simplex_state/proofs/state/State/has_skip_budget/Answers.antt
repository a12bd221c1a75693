use Rattle.std.proofs.Common.{◌-◌, ◌<◌, arith}
use Rattle.std.proofs.lemmas.Bool.Decides.{nat_tests}
use Rattle.voter_history.specs.History.{current, last_finalized}
use Rattle.simplex_state.specs.State.{Keeps}
use Rattle.simplex_state.proofs.Terms.{few_views}
use Rattle.simplex_state.proofs.state.State.has_skip_budget.Goals as goal

pub returns-then-saturating_sub-self : goal.returns-then-saturating_sub-self
unfolding Keeps
returns-then-saturating_sub-self g c = λ s h k.
    let final = c.last_finalized-finalized.ensures.value s h k.views in
    let at = c.current_view-current.ensures s h k.views in
    let same = c.lookahead-length.ensures.length s h k.views in
    let some : 0 < s.length = grind (arith, c.get-views.ensures.at_least_one, same) in
    let few : current s h - last_finalized h < s.skip_budget = grind (arith, nat_tests, c.saturating_sub.ensures, c.get-2.ensures.value, c.get-3.ensures.value, c.if-saturating_sub-self.true, final, at, k.skip_budget) in
    few_views s.length (last_finalized h) (current s h) s.skip_budget some few
