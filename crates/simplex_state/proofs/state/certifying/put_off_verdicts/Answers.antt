use Rattle.std.proofs.Common.{◌∙◌, sym, ap, subst, take}
use Rattle.std.proofs.lemmas.Result.{IfOk-from_err}
use Rattle.std.proofs.lemmas.List.{take_all}
use Rattle.voter_views.specs.Views.{Keeps}
use Rattle.simplex_state.specs.Candidates.{put_off}
use Rattle.simplex_state.proofs.Members.{take_next}
use Rattle.simplex_state.proofs.Waking.{put_off_push}
use Rattle.simplex_state.proofs.state.certifying.put_off_verdicts.Goals as goal

pub loop-view-preserved : goal.loop-view-preserved
loop-view-preserved g c = λ s h k.
    let before = take c.loop-view.view-index c.args.waiting.now in
    let same = ap (λ views. put_off views h) (take_next c.args.waiting.now c.loop-view.view-index c.view-item.result c.loop-view-test.true c.view-item.is) ∙ put_off_push before c.view-item.result h in
    subst (λ end. Keeps g.S.Scheme g.L.Elector s c.put_off_verdict.new.self end) (sym same) (c.in_ok-put_off_verdict.ensures s (put_off before h) (c.loop-view.invariant s h k))

pub returns-in_err-put_off_verdict : goal.returns-in_err-put_off_verdict
returns-in_err-put_off_verdict g c = IfOk-from_err c.from_residual.result _ c.from_residual.ensures.0

pub loop-view-init : goal.loop-view-init
loop-view-init g c = λ s h k. k

pub returns : goal.returns
returns g c = λ s h k.
    subst (λ views. Keeps g.S.Scheme g.L.Elector s c.loop-view.views (put_off views h)) (take_all c.loop-view.view-index c.args.waiting.now c.loop-view-test.false) (c.loop-view.invariant s h k)
