use Rattle.std.proofs.Common.{refl, sym, ◌∙◌}
use Rattle.simplex_round.proofs.Options.{none-IsSome}
use Rattle.simplex_round.proofs.round.Round.pending_verification.Goals as goal

pub returns-in_err-leader-clause-none : goal.returns-in_err-leader-clause-none
returns-in_err-leader-clause-none g c = λ s l h k none may.
    let unknown = rw c.in_err-leader.was at (c.leader_copy.ensures s l h k) in
    none-IsSome refl unknown may.0.another_leads.0

pub returns-in_err-proposal-clause-none : goal.returns-in_err-proposal-clause-none
returns-in_err-proposal-clause-none g c = λ s l h k none may. none-IsSome (c.proposal.ensures s l h k) c.in_err-proposal.was may.1

pub returns-clause-some : goal.returns-clause-some
returns-clause-some g c = λ s l h k.
    let may = (c.may_verify.ensures s l h k).0 c.if-not-may_verify.false in
    let leader = rw c.in_ok-leader.was at (c.leader_copy.ensures s l h k) in
    (may, leader, sym (c.proposal.ensures s l h k) ∙ c.in_ok-proposal.was)
