use Rattle.std.proofs.Common.{inr}
use Rattle.journal_single.specs.Moments.{stays, tried, and_then, weaker}
use Rattle.simplex_journal.proofs.Begun.{clear_begun, emptying, emptied, fixed_by}
use Rattle.simplex_journal.proofs.steps.clear.Goals as goal

pub returns-in_err-cut-clause-any_moment : goal.returns-in_err-cut-clause-any_moment
returns-in_err-cut-clause-any_moment g c = λ k x. tried _ (clear_begun x) (emptying x) (c.in_err-cut.ensures.tried k)

pub returns-in_err-sync-clause-any_moment : goal.returns-in_err-sync-clause-any_moment
returns-in_err-sync-clause-any_moment g c = λ k x. stays (emptying x _ (c.in_ok-cut.ensures.calls k)) (c.in_err-sync.ensures.calls k)

pub returns-in_err-begin-clause-any_moment : goal.returns-in_err-begin-clause-any_moment
returns-in_err-begin-clause-any_moment g c = λ k x.
    and_then (emptied x _ _ _ (c.in_ok-cut.ensures.cut k) (c.in_ok-cut.ensures.calls k) (c.in_ok-sync.ensures.fixed k))
    (weaker _ (c.begin.ensures.any_moment k (fixed_by _ _ _ _ (c.in_ok-sync.ensures.fixed k) (c.in_ok-sync.ensures.seen k))) (λ image short. inr short))

pub returns-clause-any_moment : goal.returns-clause-any_moment
returns-clause-any_moment g c = λ k x.
    and_then (emptied x _ _ _ (c.in_ok-cut.ensures.cut k) (c.in_ok-cut.ensures.calls k) (c.in_ok-sync.ensures.fixed k))
    (weaker _ (c.begin.ensures.any_moment k (fixed_by _ _ _ _ (c.in_ok-sync.ensures.fixed k) (c.in_ok-sync.ensures.seen k))) (λ image short. inr short))
