use Rattle.std.proofs.Common.{◌∷◌, true, sym, ◌∙◌}
use Rattle.std.proofs.lemmas.Result.{on_ok_weaker}
use Rattle.voter_views.specs.Views.{recalls}
use Rattle.simplex_state.specs.State.{Keeps}
use Rattle.simplex_state.proofs.Keeping.{keeps_by}
use Rattle.simplex_state.proofs.Owing.{owed_more, recalled_owed, recalled_still}
use Rattle.simplex_state.proofs.Waking.{recall_tells, wakes}
use Rattle.simplex_state.proofs.state.State.replay.Goals as goal

pub returns : goal.returns
unfolding Keeps
returns g c = on_ok_weaker c.replay.result
    (λ moved s h k.
    let (taken, takes, views) = moved s h k.views in (
      taken,
      takes,
      keeps_by g.S.Scheme g.L.Elector s h c.args.self.now _ k (recalls taken c.args.artifact.now ∷ h) c.wake.new.candidates c.args.self.now.notarizes c.add_if.new.self
          (wakes s h (recalls taken c.args.artifact.now) c.args.self.now.candidates c.wake.new.candidates c.view.result (λ u there. recall_tells taken c.args.artifact.now u there ∙ sym c.view.ensures) c.in_ok-wake.ensures k.candidates)
          (recalled_still s h taken c.args.artifact.now c.args.self.now.notarizes k.notarizes)
          (recalled_owed s h taken c.args.artifact.now c.view-2.result c.add_if.new.self c.view-2.ensures (λ is. c.in_ok-add_if.ensures.own (c.is_true_verdict.ensures.1 is)) (owed_more s h true c.args.self.now.finalizes c.add_if.new.self c.in_ok-add_if.ensures.kept k.finalizes))
          views,
    ))
    c.replay.ensures
