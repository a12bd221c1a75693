use Rattle.std.proofs.Common.{refl}
use Rattle.node_votes.proofs.rounds.Rounds.next_due.Goals as goal

pub returns-in-Ok-Some-clause-done : goal.returns-in-Ok-Some-clause-done
returns-in-Ok-Some-clause-done g c = λ s up happened k. (rw c.in-Ok-Some.field-0-is at c.in-Ok-Some.ensures.done) s up happened (c.views.invariant s up happened k) c.in-Some.ensures.touched

pub returns-in-Ok-Some-clause-readable : goal.returns-in-Ok-Some-clause-readable
returns-in-Ok-Some-clause-readable g c = λ s up happened k. (rw c.in-Ok-Some.field-0-is at c.in-Ok-Some.ensures.readable) s up happened (c.views.invariant s up happened k)

pub views-preserved : goal.views-preserved
views-preserved g c = λ s up happened k. (rw c.in-Ok-None.field-0-is at c.in-Ok-None.ensures.done) s up happened (c.views.invariant s up happened k) c.in-Some.ensures.touched

pub returns-in-Err-clause-err : goal.returns-in-Err-clause-err
returns-in-Err-clause-err g c = λ s up happened k. c.in-Err.ensures.err s up happened (c.views.invariant s up happened k)

pub returns-clause-none : goal.returns-clause-none
returns-clause-none g c = λ is s up happened k. let now = c.views.invariant s up happened k in (c.in_default.ensures.none refl s up happened now, now)
