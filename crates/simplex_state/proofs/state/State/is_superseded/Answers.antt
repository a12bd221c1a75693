use Rattle.std.proofs.lemmas.Bool.{both_ways}
use Rattle.voter_views.specs.ShowsKnown.{at}
use Rattle.simplex_state.specs.State.{Keeps}
use Rattle.simplex_state.proofs.Entries.{another_preferred}
use Rattle.simplex_state.proofs.state.State.is_superseded.Goals as goal

pub returns-then-is_captured : goal.returns-then-is_captured
unfolding Keeps
returns-then-is_captured g c = λ s h k. (λ never. absurd (cc (never)), λ is. absurd (is.fallen ((c.is_captured.ensures s h k).0 c.if-is_captured.true)))

pub returns : goal.returns
unfolding Keeps
returns g c = λ s h k.
    another_preferred _ _ c.args.view c.args.parent c.args.payload c.preferred_parent.result c.is_some.result c.is_some.ensures
    (λ captured. both_ways c.is_captured.result c.if-is_captured.false ((c.is_captured.ensures s h k).1 captured)) (c.preferred_parent.ensures _ _ (at s h k.views))
