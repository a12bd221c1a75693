use Rattle.std.proofs.Common.{refl, sym, ◌∙◌}
use Rattle.std.proofs.lemmas.Bool.{both_ways}
use Rattle.std.proofs.lemmas.Result.{IfOk-weaker, on_ok_weaker}
use Rattle.voter_history.specs.History.{latched}
use Rattle.simplex_state.specs.State.{Keeps}
use Rattle.simplex_state.proofs.Keeping.{keeps_by, keeps_still}
use Rattle.simplex_state.proofs.state.State.trigger_timeout.Goals as goal

pub returns-then-not-may_latch-clause-keeps : goal.returns-then-not-may_latch-clause-keeps
returns-then-not-may_latch-clause-keeps g c = λ s h k may. absurd (both_ways c.may_latch.result c.if-not-may_latch.true ((c.may_latch.ensures s h k).1 may))

pub returns-then-not-may_latch-clause-unchanged : goal.returns-then-not-may_latch-clause-unchanged
returns-then-not-may_latch-clause-unchanged g c = λ no s h k. k

pub returns-then-not-may_latch-clause-answer : goal.returns-then-not-may_latch-clause-answer
returns-then-not-may_latch-clause-answer g c = λ s h k. (λ never. absurd (cc never), λ is. absurd (both_ways c.may_latch.result c.if-not-may_latch.true ((c.may_latch.ensures s h k).1 is.counts)))

pub returns-clause-keeps : goal.returns-clause-keeps
unfolding Keeps
returns-clause-keeps g c = on_ok_weaker c.latch_timeout.result
    (λ moved s h k may. keeps_still g.S.Scheme g.L.Elector s h c.args.self.now _ k (latched c.args.now c.args.view c.args.reason) refl tt tt (moved s h k.views))
    c.latch_timeout.ensures.keeps

pub returns-clause-unchanged : goal.returns-clause-unchanged
unfolding Keeps
returns-clause-unchanged g c = IfOk-weaker c.latch_timeout.result _ _
    (λ first same no s h k. keeps_by g.S.Scheme g.L.Elector s h c.args.self.now _ k h c.args.self.now.candidates c.args.self.now.notarizes c.args.self.now.finalizes k.candidates k.notarizes k.finalizes (same no s h k.views))
    c.latch_timeout.ensures.unchanged

pub returns-clause-answer : goal.returns-clause-answer
unfolding Keeps
returns-clause-answer g c = IfOk-weaker c.latch_timeout.result _ _
    (λ first is s h k. (
      λ yes. record { counts = (c.may_latch.ensures s h k).0 c.if-not-may_latch.false; first = sym (is s h k.views) ∙ yes },
      λ one. is s h k.views ∙ one.first,
    ))
    c.latch_timeout.ensures.answer
