use Rattle.std.proofs.Common.{refl}
use Rattle.std.specs.Prelude.{is_some}
use Rattle.std.proofs.lemmas.Result.{IfOk-weaker}
use Rattle.types_terms.specs.declared.kind.Kind.TheVariants as kind
use Rattle.voter_history.specs.History.{sent}
use Rattle.simplex_state.specs.State.{Keeps}
use Rattle.simplex_state.proofs.Keeping.{keeps_still_if}
use Rattle.simplex_state.proofs.state.State.broadcast_nullification.Goals as goal

pub returns-clause-keeps : goal.returns-clause-keeps
unfolding Keeps
returns-clause-keeps g c = IfOk-weaker c.broadcast_nullification.result _ _
    (λ r moved s h k. keeps_still_if g.S.Scheme g.L.Elector s h _ _ k (is_some r) (sent kind.Nullification c.args.view) refl tt tt (moved s h k.views))
    c.broadcast_nullification.ensures.keeps

pub returns-clause-answer : goal.returns-clause-answer
unfolding Keeps
returns-clause-answer g c = IfOk-weaker c.broadcast_nullification.result _ _ (λ r is s h k. is s h k.views) c.broadcast_nullification.ensures.answer
