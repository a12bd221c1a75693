use Rattle.std.proofs.Common.{inl, inr, sym, ◌∙◌}
use mathlib.Core.Bool.{true≢false}
use Rattle.std.proofs.lemmas.Bool.{both_ways}
use Rattle.simplex_state.proofs.state.State.pending_handoff_abandonment.Goals as goal

pub returns-then-parent_certified : goal.returns-then-parent_certified
returns-then-parent_certified g c = λ s h k. inl ((c.parent_certified.ensures s h k).0 c.if-parent_certified.true)

pub returns-then-voted_nullify : goal.returns-then-voted_nullify
returns-then-voted_nullify g c = λ s h k.
    let at = c.current_view.ensures s h k in
    let given_up = rw at at (c.voted_nullify.ensures s h k) in
    (λ there. both_ways c.parent_certified.result c.if-parent_certified.false ((c.parent_certified.ensures s h k).1 there), λ not. true≢false (sym c.if-voted_nullify.true ∙ given_up ∙ not))

pub returns-then-not-is_captured : goal.returns-then-not-is_captured
returns-then-not-is_captured g c = λ s h k.
    let at = c.current_view.ensures s h k in
    let given_up = rw at at (c.voted_nullify.ensures s h k) in (
      λ there. both_ways c.parent_certified.result c.if-parent_certified.false ((c.parent_certified.ensures s h k).1 there),
      sym given_up ∙ c.if-voted_nullify.false,
      λ is. both_ways c.is_captured.result c.if-not-is_captured.true ((c.is_captured.ensures s h k).1 is),
    )

pub returns : goal.returns
returns g c = λ s h k.
    let at = c.current_view.ensures s h k in
    let given_up = rw at at (c.voted_nullify.ensures s h k) in
    inr (sym given_up ∙ c.if-voted_nullify.false, (c.is_captured.ensures s h k).0 c.if-not-is_captured.false)
