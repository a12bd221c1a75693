use Rattle.std.proofs.Common.{◌≡◌, ◌≢◌, ◌<◌, ℕ, [], inl, refl, sym, subst, ⊎_elim, arith}
use Rattle.std.proofs.lemmas.Bool.{cases_lt}
use Rattle.std.proofs.lemmas.Result.{MatchResult-weaker}
use Rattle.voter_views.proofs.Advancing.{grown-tables}
use Rattle.voter_views.proofs.Choices.{is-not}
use Rattle.voter_history.specs.History as History
use Rattle.voter_history.specs.History.{current, seen}
use Rattle.voter_history.specs.Past.{deadline, RetryIsKnown}
use Rattle.voter_views.specs.Progress.{frame_of, tables}
use Rattle.voter_rounds.specs.Tracked.{Holds}
use Rattle.voter_views.specs.Views.{Keeps}
use Rattle.voter_views.proofs.Stepping.{polled-answer, polled-none, polled-quiet, polled-some, quiet, unmoved}
use Rattle.voter_views.proofs.views.Views.next_timeout.Goals as goal

pub returns-then-is_zero-clause-keeps : goal.returns-then-is_zero-clause-keeps
unfolding Keeps
returns-then-is_zero-clause-keeps g c = λ s h k same.
    let zero : c.args.self.now.progress.view ≡ 0 = c.is_zero.ensures.0 c.if-is_zero.true in
    quiet (History.polled c.args.now) c.args.self.now.progress.tracked c.args.self.now.beginning k (polled-quiet s h c.args.now) refl
    (subst (λ t. Holds g.S.Scheme (frame_of s) c.args.self.now.progress.tracked (grown-tables s h t)) (polled-none s h c.args.now (rw zero at (sym k.progress.view))) k.progress.tracked)
    k.begun

pub returns-clause-keeps : goal.returns-clause-keeps
unfolding Keeps
returns-clause-keeps g c = MatchResult-weaker c.next_timeout.result c.next_timeout.ensures.keeps
    (λ _ told s h k same.
    let some : c.args.self.now.progress.view ≡ 0 → ⊥ = λ zero. is-not c.if-is_zero.false (c.is_zero.ensures.1 zero) in
    quiet (History.polled c.args.now) c.next_timeout.new.self c.args.self.now.beginning k (polled-quiet s h c.args.now) refl
    (subst (λ t. Holds g.S.Scheme (frame_of s) c.next_timeout.new.self (grown-tables s h t)) (polled-some s h c.args.now c.args.self.now.progress.view c.args.retry_interval same k.progress.view some)
    (told (frame_of s) (tables s h) k.progress.tracked))
    k.begun)
    (λ e _. tt)

pub returns-clause-unchanged : goal.returns-clause-unchanged
unfolding Keeps
returns-clause-unchanged g c = MatchResult-weaker c.next_timeout.result c.next_timeout.ensures.unchanged
    (λ _ told s h k seen_there known.
    let at = k.progress.view in
    let some : 0 < current s h = ⊎_elim (λ lt. lt) (λ le. absurd (is-not c.if-is_zero.false (c.is_zero.ensures.1 (omega (arith, le, at))))) (cases_lt 0 (current s h)) in
    unmoved c.next_timeout.new.self k
    (told (frame_of s) (tables s h) k.progress.tracked
    (inl (subst (λ (v : ℕ). seen s h v ≢ []) (sym at) (seen_there some)))
    (subst (λ (v : ℕ). RetryIsKnown (seen s h v)) (sym at) known)))
    (λ e _. tt)

pub returns-clause-answer : goal.returns-clause-answer
unfolding Keeps
returns-clause-answer g c = MatchResult-weaker c.next_timeout.result c.next_timeout.ensures.answer
    (λ timeout told s h k.
    polled-answer s h c.args.self.now.progress.view (deadline c.args.now c.args.retry_interval) c.args.allow_latched_timeout timeout k.progress.view (λ zero. is-not c.if-is_zero.false (c.is_zero.ensures.1 zero))
    (told (frame_of s) (tables s h) k.progress.tracked))
    (λ e _. tt)
