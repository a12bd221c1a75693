use Rattle.std.proofs.Common.{sym}
use Rattle.std.proofs.lemmas.Option.{same_Some}
use Rattle.std.proofs.lemmas.Result.{IfOk-weaker, on_ok_weaker}
use Rattle.voter_history.specs.History.{forwarded}
use Rattle.simplex_state.specs.State.{Keeps}
use Rattle.simplex_state.proofs.Keeping.{keeps_woken}
use Rattle.simplex_state.proofs.state.State.set_proposal.Goals as goal

pub returns-clause-keeps : goal.returns-clause-keeps
unfolding Keeps
returns-clause-keeps g c = on_ok_weaker c.set_proposal.result
    (λ moved s h k. keeps_woken g.S.Scheme g.L.Elector s h _ _ k (forwarded c.args.view c.args.proposal.now) tt tt c.wake.new.candidates c.args.view (λ u is. sym (same_Some c.args.view u is)) c.in_ok-wake.ensures (moved s h k.views))
    c.set_proposal.ensures.keeps

pub returns-clause-answer : goal.returns-clause-answer
unfolding Keeps
returns-clause-answer g c = IfOk-weaker c.set_proposal.result _ _ (λ first is s h k. is s h k.views) c.set_proposal.ensures.answer
