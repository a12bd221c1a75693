use Rattle.std.proofs.Common.{◌∷◌, false, true, inl, inr, refl}
use Rattle.std.proofs.lemmas.Bool.{both_ways}
use Rattle.std.proofs.lemmas.Result.{IfOk-from_err, IfOk-weaker, on_ok_weaker}
use Rattle.voter_history.specs.History.{confirmed, unbound}
use Rattle.voter_views.specs.ShowsKnown as shown
use Rattle.simplex_state.specs.State.{Keeps}
use Rattle.simplex_state.proofs.Keeping.{keeps_by, keeps_still}
use Rattle.simplex_state.proofs.Owing.{owed_more, owed_still, owed_there}
use Rattle.simplex_state.proofs.Waking.{stays}
use Rattle.simplex_state.proofs.Unknown.{steady_unseen, unverified_never}
use Rattle.simplex_state.proofs.state.State.verified.Goals as goal

pub returns-then-not-is_tracked-clause-keeps : goal.returns-then-not-is_tracked-clause-keeps
unfolding Keeps
returns-then-not-is_tracked-clause-keeps g c = λ s h k.
    inl (
      steady_unseen s h c.args.view (λ there. both_ways c.is_tracked.result c.if-not-is_tracked.true ((c.is_tracked.ensures s h k.views).1 there)),
      inr (λ there. both_ways c.is_tracked.result c.if-not-is_tracked.true ((c.is_tracked.ensures s h k.views).1 there), k),
    )

pub returns-then-not-is_tracked-clause-answer : goal.returns-then-not-is_tracked-clause-answer
unfolding Keeps
returns-then-not-is_tracked-clause-answer g c = λ s h k.
    (λ never. absurd (cc never), λ is. absurd (unverified_never s h c.args.view (λ there. both_ways c.is_tracked.result c.if-not-is_tracked.true ((c.is_tracked.ensures s h k.views).1 there)) is.2))

pub returns-then-not-is_steady-clause-keeps : goal.returns-then-not-is_steady-clause-keeps
unfolding Keeps
returns-then-not-is_steady-clause-keeps g c = λ s h k.
    inr (
      λ steady. both_ways c.is_steady.result c.if-not-is_steady.true ((c.is_steady.ensures _ _ (shown.at s h k.views)).1 steady),
      keeps_still g.S.Scheme g.L.Elector s h _ _ k (unbound c.args.view) refl tt tt (c.in_ok-clear_verifying.ensures s h k.views),
    )

pub returns-then-not-is_steady-clause-answer : goal.returns-then-not-is_steady-clause-answer
unfolding Keeps
returns-then-not-is_steady-clause-answer g c = λ s h k.
    (λ never. absurd (cc (never)), λ is. absurd (both_ways c.is_steady.result c.if-not-is_steady.true ((c.is_steady.ensures _ _ (shown.at s h k.views)).1 is.0)))

pub returns-in_err-clear_verifying-clause-keeps : goal.returns-in_err-clear_verifying-clause-keeps
returns-in_err-clear_verifying-clause-keeps g c = IfOk-from_err c.from_residual.result _ c.from_residual.ensures.0

pub returns-in_err-clear_verifying-clause-answer : goal.returns-in_err-clear_verifying-clause-answer
returns-in_err-clear_verifying-clause-answer g c = IfOk-from_err c.from_residual.result _ c.from_residual.ensures.0

pub returns-clause-keeps : goal.returns-clause-keeps
unfolding Keeps
returns-clause-keeps g c = on_ok_weaker c.verified.result
    (λ moved s h k. inl (
      (c.is_steady.ensures _ _ (shown.at s h k.views)).0 c.if-not-is_steady.false,
      inl (
        (c.is_tracked.ensures s h k.views).0 c.if-not-is_tracked.false,
        keeps_by g.S.Scheme g.L.Elector s h c.args.self.now _ k (confirmed c.args.view ∷ h) c.args.self.now.candidates c.add.new.self c.args.self.now.finalizes
            (stays s h (confirmed c.args.view) c.args.self.now.candidates refl k.candidates)
            (owed_there s h false (confirmed c.args.view) c.args.view c.add.new.self refl c.in_ok-add.ensures.own (owed_more s h false c.args.self.now.notarizes c.add.new.self c.in_ok-add.ensures.kept k.notarizes))
            (owed_still s h true (confirmed c.args.view) c.args.self.now.finalizes refl k.finalizes)
            (moved s h k.views),
      ),
    ))
    c.verified.ensures.keeps

pub returns-clause-answer : goal.returns-clause-answer
unfolding Keeps
returns-clause-answer g c = IfOk-weaker c.verified.result _ _
    (λ became is s h k. let good = is s h k.views in (λ yes. let may = good.0 yes in ((c.is_steady.ensures _ _ (shown.at s h k.views)).0 c.if-not-is_steady.false, may.0, may.1), λ both. good.1 (both.1, both.2)))
    c.verified.ensures.answer

pub returns-in_err-add-clause-keeps : goal.returns-in_err-add-clause-keeps
returns-in_err-add-clause-keeps g c = IfOk-from_err c.from_residual-in_err-add.result _ c.from_residual-in_err-add.ensures.0

pub returns-in_err-add-clause-answer : goal.returns-in_err-add-clause-answer
returns-in_err-add-clause-answer g c = IfOk-from_err c.from_residual-in_err-add.result _ c.from_residual-in_err-add.ensures.0
