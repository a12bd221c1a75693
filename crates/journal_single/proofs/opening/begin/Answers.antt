use Rattle.journal_single.specs.Moments.{stays, tried}
use Rattle.journal_single.proofs.Repairing.{first_begun, first_rests, first_writing, first_written}
use Rattle.journal_single.proofs.opening.begin.Goals as goal

pub returns-in_err-write_at-clause-any_moment : goal.returns-in_err-write_at-clause-any_moment
returns-in_err-write_at-clause-any_moment g c = λ k x. tried _ (first_begun x (c.requires.empty k)) (λ n is. first_writing n x (c.requires.empty k) is) (c.in_err-write_at.ensures.tried k)

pub returns-in_err-sync-clause-any_moment : goal.returns-in_err-sync-clause-any_moment
returns-in_err-sync-clause-any_moment g c = λ k x. stays (first_writing _ x (c.requires.empty k) (c.in_ok-write_at.ensures.calls k)) (c.in_err-sync.ensures.calls k)

pub returns-clause-any_moment : goal.returns-clause-any_moment
returns-clause-any_moment g c = λ k x. first_written _ _ _ x (c.requires.empty k) (c.in_ok-write_at.ensures.written k) (c.in_ok-write_at.ensures.calls k) (c.in_ok-sync.ensures.fixed k)

pub returns-clause-ok : goal.returns-clause-ok
returns-clause-ok g c = λ k. first_rests _ _ _ _ _ (c.requires.empty k) (c.in_ok-write_at.ensures.written k) (c.in_ok-sync.ensures.fixed k) (c.in_ok-sync.ensures.seen k)
