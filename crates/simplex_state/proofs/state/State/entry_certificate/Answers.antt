use Rattle.std.proofs.Common.{refl, ◌∙◌, ap}
use Rattle.std.specs.Prelude.{Some, None}
use Rattle.std.proofs.lemmas.Result.{IfOk-from_err}
use Rattle.simplex_state.specs.State.{Keeps}
use Rattle.simplex_state.proofs.Entering.{entry_is}
use Rattle.simplex_state.proofs.state.State.entry_certificate.Goals as goal

pub returns-in_err-copy : goal.returns-in_err-copy
returns-in_err-copy g c = IfOk-from_err c.from_residual.result _ c.from_residual.ensures.0

pub returns-in_err-copy-2 : goal.returns-in_err-copy-2
returns-in_err-copy-2 g c = IfOk-from_err c.from_residual-in_err-copy-2.result _ c.from_residual-in_err-copy-2.ensures.0

pub returns-in_err-copy-in-Some-notarization : goal.returns-in_err-copy-in-Some-notarization
returns-in_err-copy-in-Some-notarization g c = IfOk-from_err c.from_residual-in_err-copy-in-Some-notarization.result _ c.from_residual-in_err-copy-in-Some-notarization.ensures.0

pub returns-in-Some : goal.returns-in-Some
unfolding Keeps
returns-in-Some g c = λ s h k some. entry_is s h c.args.view c.args.before (Some c.in_ok-copy.copy) _ _ some (ap Some c.in_ok-copy.ensures ∙ c.in-Some.ensures s h k.views) refl refl

pub returns-in-Some-skipping_nullification : goal.returns-in-Some-skipping_nullification
unfolding Keeps
returns-in-Some-skipping_nullification g c = λ s h k some. entry_is s h c.args.view c.args.before None (Some c.in_ok-copy-2.copy) _ some (c.in_default.ensures s h k.views) (ap Some c.in_ok-copy-2.ensures ∙ c.in-Some-skipping_nullification.ensures s h k) refl

pub returns-in_ok-copy-in-Some-notarization : goal.returns-in_ok-copy-in-Some-notarization
unfolding Keeps
returns-in_ok-copy-in-Some-notarization g c = λ s h k some.
    entry_is s h c.args.view c.args.before None None (Some c.in_ok-copy-in-Some-notarization.copy) some (c.in_default.ensures s h k.views) (c.in_default-skipping_nullification.ensures s h k) (ap Some c.in_ok-copy-in-Some-notarization.ensures ∙ c.in-Some-notarization.ensures s h k.views)

pub returns-in-None : goal.returns-in-None
unfolding Keeps
returns-in-None g c = λ s h k some. entry_is s h c.args.view c.args.before None None None some (c.in_default.ensures s h k.views) (c.in_default-skipping_nullification.ensures s h k) (c.in-None.ensures s h k.views)
