use Rattle.std.proofs.Common.{refl}
use Rattle.simplex_round.proofs.Options.{none-IsSome}
use Rattle.simplex_round.proofs.round.Round.try_propose.Goals as goal

pub returns-in_err-leader-clause-answer : goal.returns-in_err-leader-clause-answer
returns-in_err-leader-clause-answer g c = λ s l h k.
    let unknown = rw c.in_err-leader.was at (c.leader_copy.ensures s l h k) in
    rw c.from_residual.ensures (λ may. none-IsSome refl unknown may.leads.0)

pub returns-clause-answer : goal.returns-clause-answer
returns-clause-answer g c = λ s l h k.
    let may = (c.should_propose.ensures s l h k).0 c.if-not-should_propose.false in
    let leader = rw c.in_ok-leader.was at (c.leader_copy.ensures s l h k) in
    (may, leader)
