use Rattle.std.proofs.Common.{◌∙◌, ◌∷◌, false, true, refl}
use Rattle.std.proofs.lemmas.Result.{IfOk-from_err}
use Rattle.voter_history.specs.History.{seen, voted_nullify}
use Rattle.simplex_state.specs.State.{Keeps}
use Rattle.simplex_state.proofs.Casting.{casts_nullify, gives_up, is_decided, stays_up, unsigned}
use Rattle.simplex_state.proofs.Keeping.{keeps_by}
use Rattle.simplex_state.proofs.Owing.{given_up_once, owed_still, owed_without}
use Rattle.simplex_state.proofs.Waking.{stays}
use Rattle.simplex_state.proofs.state.State.construct_nullify.Goals as goal

pub returns-then-not-is_current-clause-keeps : goal.returns-then-not-is_current-clause-keeps
returns-then-not-is_current-clause-keeps g c = λ s h k. k

pub returns-then-not-is_current-clause-answer : goal.returns-then-not-is_current-clause-answer
returns-then-not-is_current-clause-answer g c = λ s h k some. stays_up s h c.args.view c.is_current.result (c.is_current.ensures s h k) c.if-not-is_current.true

pub returns-in_default-clause-keeps : goal.returns-in_default-clause-keeps
returns-in_default-clause-keeps g c = λ s h k. k

pub returns-in_default-clause-answer : goal.returns-in_default-clause-answer
unfolding Keeps
returns-in_default-clause-answer g c = λ s h k some. absurd (unsigned g.S.Scheme s c.deref.result.now (c.deref.ensures ∙ k.scheme) k.me (c.in_default.ensures.without_key.0 refl) some)

pub returns-in_err-is_repetition-clause-keeps : goal.returns-in_err-is_repetition-clause-keeps
returns-in_err-is_repetition-clause-keeps g c = IfOk-from_err c.from_residual.result _ c.from_residual.ensures.0

pub returns-in_err-is_repetition-clause-answer : goal.returns-in_err-is_repetition-clause-answer
returns-in_err-is_repetition-clause-answer g c = IfOk-from_err c.from_residual.result _ c.from_residual.ensures.0

pub returns-in-Some-2-clause-keeps : goal.returns-in-Some-2-clause-keeps
unfolding Keeps
returns-in-Some-2-clause-keeps g c = λ s h k.
    keeps_by g.S.Scheme g.L.Elector s h c.args.self.now _ k (voted_nullify c.args.view ∷ h) c.args.self.now.candidates c.remove.new.self c.remove-in-Some-2.new.self
    (stays s h (voted_nullify c.args.view) c.args.self.now.candidates refl k.candidates)
    (owed_without s h false (seen s (voted_nullify c.args.view ∷ h)) c.args.view c.args.self.now.notarizes c.remove.new.self (given_up_once s h false c.args.view) c.remove.ensures.kept
    (owed_still s h false (voted_nullify c.args.view) c.args.self.now.notarizes tt k.notarizes))
    (owed_without s h true (seen s (voted_nullify c.args.view ∷ h)) c.args.view c.args.self.now.finalizes c.remove-in-Some-2.new.self (given_up_once s h true c.args.view) c.remove-in-Some-2.ensures.kept
    (owed_still s h true (voted_nullify c.args.view) c.args.self.now.finalizes tt k.finalizes))
    (rw c.in-Some-2.is at (c.in_ok-is_repetition.ensures.keeps s h k.views))

pub returns-in-Some-2-clause-answer : goal.returns-in-Some-2-clause-answer
unfolding Keeps
returns-in-Some-2-clause-answer g c = λ s h k.
    let (may, again) = gives_up s h c.args.view c.is_current.result c.in-Some-2.is_repetition c.in_ok-is_repetition.field-0 (c.is_current.ensures s h k) c.if-not-is_current.false (c.in_ok-is_repetition.ensures.answer s h k.views) c.in-Some-2.is in
    let vote = c.in-Some.ensures in (
      may,
      again,
      casts_nullify g.S.Scheme s c.deref.result.now (c.deref.ensures ∙ k.scheme) k.me c.in-Some.vote c.new.result c.epoch.result c.args.view vote.in_own_name vote.round c.new.ensures.epoch (c.epoch.ensures s h k.views) c.new.ensures.view vote.attests,
    )

pub returns-in-None-clause-keeps : goal.returns-in-None-clause-keeps
unfolding Keeps
returns-in-None-clause-keeps g c = λ s h k. record {
  scheme = k.scheme;
  me = k.me;
  timeout_retry = k.timeout_retry;
  skip_budget = k.skip_budget;
  views = rw c.in-None.is at (c.in_ok-is_repetition.ensures.keeps s h k.views);
  candidates = k.candidates;
  notarizes = k.notarizes;
  finalizes = k.finalizes;
}

pub returns-in-None-clause-answer : goal.returns-in-None-clause-answer
unfolding Keeps
returns-in-None-clause-answer g c = λ s h k some. is_decided s h c.args.view c.in_ok-is_repetition.field-0 (c.in_ok-is_repetition.ensures.answer s h k.views) c.in-None.is
