use Rattle.std.proofs.Common.{false, true, [], sym, subst, arith}
use Rattle.std.specs.Prelude.{Contains}
use Rattle.std.proofs.lemmas.Result.{IfOk-from_err}
use Rattle.voter_views.specs.Views as above
use Rattle.voter_history.specs.Known.{known}
use Rattle.voter_rules.specs.Ancestry.{member}
use Rattle.simplex_state.specs.Candidates.{AreAmong, put_off}
use Rattle.simplex_state.specs.State.{Keeps}
use Rattle.simplex_state.proofs.Members.{nothing_in}
use Rattle.simplex_state.proofs.Owing.{put_off_owed}
use Rattle.simplex_state.proofs.Sorting.{none_may, none_put_off, none_ready, none_wanted}
use Rattle.simplex_state.proofs.Waking.{kept_among}
use Rattle.simplex_state.proofs.state.State.certify_candidates.Goals as goal

pub returns-clause-keeps : goal.returns-clause-keeps
unfolding Keeps
returns-clause-keeps g c = λ s h k.
    let all = c.in_ok-ready.ensures s h k.views (subst (λ views. AreAmong s h views) (sym c.replace-candidates.ensures.value) k.candidates) in (
      c.in_ok-ready.field-0.put_off.items,
      all.put_off,
      record {
        scheme = k.scheme;
        me = k.me;
        timeout_retry = k.timeout_retry;
        skip_budget = k.skip_budget;
        views = subst (λ xs. above.Keeps g.S.Scheme g.L.Elector s c.put_off_verdicts.new.views (put_off xs h)) c.deref.ensures.value (c.in_ok-put_off_verdicts.ensures s h k.views);
        candidates = kept_among s h c.in_ok-ready.field-0 c.keep.new.candidates all (λ p there. c.in_ok-keep.ensures p (subst (λ ps. Contains ps p) (sym c.deref-2.ensures.value) there));
        notarizes = put_off_owed s h false c.in_ok-ready.field-0.put_off.items c.args.self.now.notarizes k.notarizes;
        finalizes = put_off_owed s h true c.in_ok-ready.field-0.put_off.items c.args.self.now.finalizes k.finalizes;
      },
    )

pub returns-clause-ready : goal.returns-clause-ready
unfolding Keeps
returns-clause-ready g c = λ s h k. (c.in_ok-ready.ensures s h k.views (subst (λ views. AreAmong s h views) (sym c.replace-candidates.ensures.value) k.candidates)).ready

pub returns-clause-wanted : goal.returns-clause-wanted
unfolding Keeps
returns-clause-wanted g c = λ s h k. (c.in_ok-ready.ensures s h k.views (subst (λ views. AreAmong s h views) (sym c.replace-candidates.ensures.value) k.candidates)).wanted

pub returns-in_err-ready-clause-keeps : goal.returns-in_err-ready-clause-keeps
returns-in_err-ready-clause-keeps g c = IfOk-from_err c.from_residual.result _ c.from_residual.ensures.0

pub returns-in_err-ready-clause-ready : goal.returns-in_err-ready-clause-ready
returns-in_err-ready-clause-ready g c = IfOk-from_err c.from_residual.result _ c.from_residual.ensures.0

pub returns-in_err-ready-clause-wanted : goal.returns-in_err-ready-clause-wanted
returns-in_err-ready-clause-wanted g c = IfOk-from_err c.from_residual.result _ c.from_residual.ensures.0

pub returns-in_err-put_off_verdicts-clause-keeps : goal.returns-in_err-put_off_verdicts-clause-keeps
returns-in_err-put_off_verdicts-clause-keeps g c = IfOk-from_err c.from_residual-in_err-put_off_verdicts.result _ c.from_residual-in_err-put_off_verdicts.ensures.0

pub returns-in_err-put_off_verdicts-clause-ready : goal.returns-in_err-put_off_verdicts-clause-ready
returns-in_err-put_off_verdicts-clause-ready g c = IfOk-from_err c.from_residual-in_err-put_off_verdicts.result _ c.from_residual-in_err-put_off_verdicts.ensures.0

pub returns-in_err-put_off_verdicts-clause-wanted : goal.returns-in_err-put_off_verdicts-clause-wanted
returns-in_err-put_off_verdicts-clause-wanted g c = IfOk-from_err c.from_residual-in_err-put_off_verdicts.result _ c.from_residual-in_err-put_off_verdicts.ensures.0

pub returns-in_err-keep-clause-keeps : goal.returns-in_err-keep-clause-keeps
returns-in_err-keep-clause-keeps g c = IfOk-from_err c.from_residual-in_err-keep.result _ c.from_residual-in_err-keep.ensures.0

pub returns-in_err-keep-clause-ready : goal.returns-in_err-keep-clause-ready
returns-in_err-keep-clause-ready g c = IfOk-from_err c.from_residual-in_err-keep.result _ c.from_residual-in_err-keep.ensures.0

pub returns-in_err-keep-clause-wanted : goal.returns-in_err-keep-clause-wanted
returns-in_err-keep-clause-wanted g c = IfOk-from_err c.from_residual-in_err-keep.result _ c.from_residual-in_err-keep.ensures.0

pub returns-then-is_empty-clause-keeps : goal.returns-then-is_empty-clause-keeps
unfolding Keeps
returns-then-is_empty-clause-keeps g c = λ s h k.
    let some = rw (c.lookahead.ensures.length s h k.views) at c.get-views.ensures.at_least_one in
    let none = none_may (member s) (known s h) c.args.self.now.candidates some k.candidates.all (nothing_in c.args.self.now.candidates (λ left. let length = c.is_empty.ensures.0 c.if-is_empty.true in omega (arith, length, left))) in
    ([], none_put_off (member s) (known s h) none, k)

pub returns-then-is_empty-clause-ready : goal.returns-then-is_empty-clause-ready
unfolding Keeps
returns-then-is_empty-clause-ready g c = λ s h k.
    let some = rw (c.lookahead.ensures.length s h k.views) at c.get-views.ensures.at_least_one in
    let none = none_may (member s) (known s h) c.args.self.now.candidates some k.candidates.all (nothing_in c.args.self.now.candidates (λ left. let length = c.is_empty.ensures.0 c.if-is_empty.true in omega (arith, length, left))) in
    rw c.new.ensures.items (none_ready (member s) (known s h) none)

pub returns-then-is_empty-clause-wanted : goal.returns-then-is_empty-clause-wanted
unfolding Keeps
returns-then-is_empty-clause-wanted g c = λ s h k.
    let some = rw (c.lookahead.ensures.length s h k.views) at c.get-views.ensures.at_least_one in
    let none = none_may (member s) (known s h) c.args.self.now.candidates some k.candidates.all (nothing_in c.args.self.now.candidates (λ left. let length = c.is_empty.ensures.0 c.if-is_empty.true in omega (arith, length, left))) in
    rw c.new-then-is_empty.ensures.items (none_wanted (member s) (known s h) none)
