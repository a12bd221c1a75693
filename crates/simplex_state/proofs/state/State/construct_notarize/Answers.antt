use Rattle.std.proofs.Common.{◌≡◌, ◌∙◌, ◌∷◌, false, true, refl, sym, ap}
use Rattle.std.specs.Prelude.{Some}
use Rattle.std.proofs.lemmas.Bool.{both_ways}
use Rattle.std.proofs.lemmas.Option.{IfSome_then}
use Rattle.std.proofs.lemmas.Result.{IfOk-from_err}
use Rattle.types_core.specs.Subject.{notarize}
use Rattle.voter_history.specs.Held.{held}
use Rattle.voter_history.specs.Past.{offers}
use Rattle.voter_history.specs.History.{seen, voted_notarize}
use Rattle.voter_views.specs.ShowsKnown as shown
use Rattle.simplex_state.specs.State.{Keeps}
use Rattle.simplex_state.proofs.Casting.{casts, keyless, signs}
use Rattle.simplex_state.proofs.Keeping.{keeps_by}
use Rattle.simplex_state.proofs.Owing.{owed_still, owed_without, voted_once}
use Rattle.simplex_state.proofs.Waking.{stays}
use Rattle.simplex_state.proofs.state.State.construct_notarize.Goals as goal

pub returns-then-is_none-clause-keeps : goal.returns-then-is_none-clause-keeps
unfolding Keeps
returns-then-is_none-clause-keeps g c = λ s h k. k

pub returns-then-is_none-clause-answer : goal.returns-then-is_none-clause-answer
unfolding Keeps
returns-then-is_none-clause-answer g c = λ s h k some. absurd (keyless c.me.result s.me c.is_none.result c.is_none.ensures c.if-is_none.true (c.me.ensures.own ∙ ap g.S.Scheme.own (c.deref.ensures ∙ k.scheme) ∙ k.me) some)

pub returns-then-not-notarize_is_due-clause-keeps : goal.returns-then-not-notarize_is_due-clause-keeps
unfolding Keeps
returns-then-not-notarize_is_due-clause-keeps g c = λ s h k. k

pub returns-then-not-notarize_is_due-clause-answer : goal.returns-then-not-notarize_is_due-clause-answer
unfolding Keeps
returns-then-not-notarize_is_due-clause-answer g c = λ s h k some due. both_ways c.notarize_is_due.result c.if-not-notarize_is_due.true ((c.notarize_is_due.ensures _ _ (shown.at s h k.views)).1 due)

pub returns-in_err-proposal-clause-keeps : goal.returns-in_err-proposal-clause-keeps
unfolding Keeps
returns-in_err-proposal-clause-keeps g c = IfOk-from_err c.from_residual.result _ c.from_residual.ensures.0

pub returns-in_err-proposal-clause-answer : goal.returns-in_err-proposal-clause-answer
unfolding Keeps
returns-in_err-proposal-clause-answer g c = IfOk-from_err c.from_residual.result _ c.from_residual.ensures.0

pub returns-in_default-clause-keeps : goal.returns-in_default-clause-keeps
unfolding Keeps
returns-in_default-clause-keeps g c = λ s h k. record {
  scheme = k.scheme;
  me = k.me;
  timeout_retry = k.timeout_retry;
  skip_budget = k.skip_budget;
  views = rw c.in_default.is at (c.in_ok-proposal.ensures.keeps s h k.views);
  candidates = k.candidates;
  notarizes = k.notarizes;
  finalizes = k.finalizes;
}

pub returns-in_default-clause-answer : goal.returns-in_default-clause-answer
unfolding Keeps
returns-in_default-clause-answer g c = λ s h k some due.
    (rw c.in_default.is at (c.in_ok-proposal.ensures.answer s h k.views)) (record { first = due.first; not_given_up = due.not_given_up; verified = due.verified })

pub returns-clause-keeps : goal.returns-clause-keeps
unfolding Keeps
returns-clause-keeps g c = λ s h k.
    signs c.sign.result _ c.me.result c.is_none.result _ _ c.sign.ensures.without_key (ap g.S.Scheme.own (c.deref-2.ensures ∙ sym c.deref.ensures) ∙ sym c.me.ensures.own) c.is_none.ensures c.if-is_none.false
    (IfSome_then c.sign.result c.sign.ensures.proposal (λ v is. rw is (
    keeps_by g.S.Scheme g.L.Elector s h c.args.self.now _ k (voted_notarize c.args.view c.in-Some.proposal ∷ h) c.args.self.now.candidates c.remove.new.self c.args.self.now.finalizes
    (stays s h (voted_notarize c.args.view c.in-Some.proposal) c.args.self.now.candidates refl k.candidates)
    (owed_without s h false (seen s (voted_notarize c.args.view c.in-Some.proposal ∷ h)) c.args.view c.args.self.now.notarizes c.remove.new.self (voted_once s h c.in-Some.proposal c.args.view) c.remove.ensures.kept
    (owed_still s h false (voted_notarize c.args.view c.in-Some.proposal) c.args.self.now.notarizes tt k.notarizes))
    (owed_still s h true (voted_notarize c.args.view c.in-Some.proposal) c.args.self.now.finalizes tt k.finalizes)
    (rw c.in-Some.is at (c.in_ok-proposal.ensures.keeps s h k.views)))))

pub returns-clause-answer : goal.returns-clause-answer
unfolding Keeps
returns-clause-answer g c = λ s h k.
    signs c.sign.result _ c.me.result c.is_none.result _ _ c.sign.ensures.without_key (ap g.S.Scheme.own (c.deref-2.ensures ∙ sym c.deref.ensures) ∙ sym c.me.ensures.own) c.is_none.ensures c.if-is_none.false
    (casts g.S.Scheme s c.deref-2.result.now (c.deref-2.ensures ∙ k.scheme) k.me notarize c.sign.result c.in-Some.proposal _ (λ p. held (offers (seen s h c.args.view)) ≡ Some p) c.sign.ensures.in_own_name c.sign.ensures.proposal c.sign.ensures.attests
    ((c.notarize_is_due.ensures _ _ (shown.at s h k.views)).0 c.if-not-notarize_is_due.false) (rw c.in-Some.is at (c.in_ok-proposal.ensures.answer s h k.views)).1)

pub returns-in_err-proposal-clause-of_view : goal.returns-in_err-proposal-clause-of_view
returns-in_err-proposal-clause-of_view g c = IfOk-from_err c.from_residual.result _ c.from_residual.ensures.0

pub returns-clause-of_view : goal.returns-clause-of_view
unfolding Keeps
returns-clause-of_view g c = λ s h k are.
    IfSome_then c.sign.result c.sign.ensures.proposal
    (λ v is. rw is (c.held_lies_in_its_view.ensures s h c.args.view c.in-Some.proposal are (rw c.in-Some.is at (c.in_ok-proposal.ensures.answer s h k.views)).1))
