use Rattle.std.proofs.Common.{inl, inr, refl}
use Rattle.voter_history.specs.declared.timeout_reason.TimeoutReason.TheVariants as reason
use Rattle.voter_history.specs.History.{latched}
use Rattle.voter_views.specs.ShowsKnown as shown
use Rattle.simplex_state.specs.State.{Keeps}
use Rattle.simplex_state.proofs.Keeping.{keeps_by, keeps_still}
use Rattle.simplex_state.proofs.Looking.{gives_up}
use Rattle.simplex_state.proofs.state.State.look.Goals as goal

pub returns-in-Ready : goal.returns-in-Ready
unfolding Keeps
returns-in-Ready g c = λ s h k. (rw c.in-Ready.is at (c.request_for.ensures _ _ (shown.at s h k.views)), k)

pub returns-in-Nullification : goal.returns-in-Nullification
unfolding Keeps
returns-in-Nullification g c = λ s h k. (rw c.in-Nullification.is at (c.request_for.ensures _ _ (shown.at s h k.views)), k)

pub returns-in-Notarization : goal.returns-in-Notarization
unfolding Keeps
returns-in-Notarization g c = λ s h k. (rw c.in-Notarization.is at (c.request_for.ensures _ _ (shown.at s h k.views)), k)

pub returns-in_ok-_first-in-Invalid : goal.returns-in_ok-_first-in-Invalid
unfolding Keeps
returns-in_ok-_first-in-Invalid g c = λ s h k.
    inr (
      rw c.in-Invalid.is at (c.request_for.ensures _ _ (shown.at s h k.views)),
      gives_up g.S.Scheme g.L.Elector s _ c.args.now h c.args.view _ (c.in_ok-_first-in-Invalid.ensures.answer s h k.views)
          (keeps_still g.S.Scheme g.L.Elector s h c.args.self.now _ k (latched c.args.now c.args.view reason.InvalidProposal) refl tt tt (c.in_ok-_first-in-Invalid.ensures.keeps s h k.views))
          (λ no. keeps_by g.S.Scheme g.L.Elector s h c.args.self.now _ k h c.args.self.now.candidates c.args.self.now.notarizes c.args.self.now.finalizes k.candidates k.notarizes k.finalizes (c.in_ok-_first-in-Invalid.ensures.unchanged no s h k.views)),
    )

pub returns-in-Wait : goal.returns-in-Wait
unfolding Keeps
returns-in-Wait g c = λ s h k. inl (rw c.in-Wait.is at (c.request_for.ensures _ _ (shown.at s h k.views)), k)
