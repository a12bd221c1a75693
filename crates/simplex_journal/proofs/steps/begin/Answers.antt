use Rattle.journal_single.specs.Moments.{stays, tried}
use Rattle.simplex_journal.proofs.Begun.{gate_begun, gate_writing, gate_written, gate_rests}
use Rattle.simplex_journal.proofs.steps.begin.Goals as goal

pub returns-in_err-write_at-clause-any_moment : goal.returns-in_err-write_at-clause-any_moment
returns-in_err-write_at-clause-any_moment g c = λ k x. tried _ (gate_begun x (c.requires.empty k)) (gate_writing x (c.requires.empty k)) (c.in_err-write_at.ensures.tried k)

pub returns-in_err-sync-clause-any_moment : goal.returns-in_err-sync-clause-any_moment
returns-in_err-sync-clause-any_moment g c = λ k x. stays (gate_writing x (c.requires.empty k) _ (c.in_ok-write_at.ensures.calls k)) (c.in_err-sync.ensures.calls k)

pub returns-clause-any_moment : goal.returns-clause-any_moment
returns-clause-any_moment g c = λ k x. gate_written x (c.requires.empty k) _ _ _ (c.in_ok-write_at.ensures.written k) (c.in_ok-write_at.ensures.calls k) (c.in_ok-sync.ensures.fixed k)

pub returns-clause-ok : goal.returns-clause-ok
returns-clause-ok g c = λ k. gate_rests _ _ _ _ _ (c.requires.empty k) (c.in_ok-write_at.ensures.written k) (c.in_ok-sync.ensures.fixed k) (c.in_ok-sync.ensures.seen k)
