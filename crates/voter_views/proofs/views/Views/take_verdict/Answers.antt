use Rattle.std.proofs.Common.{◌≡◌, ◌∙◌, false, subst, ◌∷◌}
use Rattle.std.specs.Prelude.{nat_le}
use Rattle.std.proofs.lemmas.Result.{MatchResult-weaker}
use Rattle.voter_history.specs.Past as past
use Rattle.voter_history.specs.Pasts.{put}
use Rattle.voter_rounds.specs.Tracked.{Holds}
use Rattle.voter_views.proofs.Advancing.{IsAt-tracked, grown-tables}
use Rattle.voter_views.proofs.Choices.{isnt_before, is_before}
use Rattle.voter_views.proofs.Stepping.{quiet, quiet-progress, judged-quiet, judged-ahead, judged-behind, judged-stays, judged-true}
use Rattle.voter_history.specs.History as History
use Rattle.voter_history.specs.History.{current, seen}
use Rattle.voter_views.specs.Progress.{frame_of, tables}
use Rattle.voter_views.specs.Views.{Keeps}
use Rattle.voter_views.proofs.views.Views.take_verdict.Goals as goal

pub returns-then-is_success : goal.returns-then-is_success
unfolding Keeps
returns-then-is_success g c = MatchResult-weaker c.enter.result c.enter.ensures
    (λ _ told s h k.
    let at = c.args.view in
    let ok = c.args.is_success in
    let then = grown-tables s h (put at (past.judged ok) (seen s h)) in
    let entered = told s (current s h) then (IsAt-tracked {t' = then} k.progress (c.in_ok-judge.ensures (frame_of s) (tables s h) k.progress.tracked)) in
    quiet-progress (History.judged c.args.now at ok) c.enter.new.self c.tell.new.self k (judged-quiet s h c.args.now at ok)
    (judged-true s h c.args.now at c.next.result ok c.enter.new.self c.next.ensures c.if-is_success.true entered)
    (c.tell.ensures.floor ∙ k.begun.0, c.tell.ensures.blank))
    (λ e _. tt)

pub returns-then-lt : goal.returns-then-lt
unfolding Keeps
returns-then-lt g c = λ s h k.
    let at = c.args.view in
    let ok = c.args.is_success in
    let behind : nat_le (current s h) at ≡ false = is_before at c.args.self.now.progress.view (current s h) c.lt.result k.progress.view c.lt.ensures c.if-lt.true in
    let kept : Holds g.S.Scheme (frame_of s) c.judge.new.self (grown-tables s h (seen s (History.judged c.args.now at ok ∷ h))) =
    subst (λ t. Holds g.S.Scheme (frame_of s) c.judge.new.self (grown-tables s h t)) (judged-behind s h c.args.now at ok c.if-is_success.false behind)
    (c.in_ok-judge.ensures (frame_of s) (tables s h) k.progress.tracked) in
    quiet (History.judged c.args.now at ok) c.judge.new.self c.tell.new.self k (judged-quiet s h c.args.now at ok) (judged-stays s h c.args.now at ok c.if-is_success.false) kept
    (c.tell.ensures.floor ∙ k.begun.0, c.tell.ensures.blank)

pub returns : goal.returns
unfolding Keeps
returns g c = λ s h k.
    let at = c.args.view in
    let ok = c.args.is_success in
    let then = grown-tables s h (put at (past.judged ok) (seen s h)) in
    let latched = c.in_ok-_first.ensures.keeps (frame_of s) then (c.in_ok-judge.ensures (frame_of s) (tables s h) k.progress.tracked) in
    let kept : Holds g.S.Scheme (frame_of s) c.latch_timeout.new.self (grown-tables s h (seen s (History.judged c.args.now at ok ∷ h))) =
    subst (λ t. Holds g.S.Scheme (frame_of s) c.latch_timeout.new.self (grown-tables s h t))
    (judged-ahead s h c.args.now at ok c.if-is_success.false (isnt_before at c.args.self.now.progress.view (current s h) c.lt.result k.progress.view c.lt.ensures c.if-lt.false)) latched in
    quiet (History.judged c.args.now at ok) c.latch_timeout.new.self c.tell.new.self k (judged-quiet s h c.args.now at ok) (judged-stays s h c.args.now at ok c.if-is_success.false) kept
    (c.tell.ensures.floor ∙ k.begun.0, c.tell.ensures.blank)
