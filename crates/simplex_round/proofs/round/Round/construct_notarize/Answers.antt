use Rattle.std.proofs.Common.{sym, ◌∙◌}
use Rattle.simplex_round.specs.Round.{Keeps}
use Rattle.simplex_round.proofs.Options.{none-IsSome}
use Rattle.simplex_round.proofs.round.Round.construct_notarize.Goals as goal

pub returns-then-not-can_construct_notarize-clause-answer : goal.returns-then-not-can_construct_notarize-clause-answer
unfolding Keeps
returns-then-not-can_construct_notarize-clause-answer g c = λ s l h k may.
    let v = (c.can_construct_notarize.ensures s l h k).1 may in
    cc (v, c.if-not-can_construct_notarize.true)

pub returns-in_err-proposal-clause-answer : goal.returns-in_err-proposal-clause-answer
unfolding Keeps
returns-in_err-proposal-clause-answer g c = λ s l h k.
    let may = (c.can_construct_notarize.ensures s l h k).0 c.if-not-can_construct_notarize.false in
    rw c.from_residual.ensures (λ _. none-IsSome (c.proposal.ensures s l h k) c.in_err-proposal.was may.verified.0)

pub returns-clause-answer : goal.returns-clause-answer
unfolding Keeps
returns-clause-answer g c = λ s l h k.
    let may = (c.can_construct_notarize.ensures s l h k).0 c.if-not-can_construct_notarize.false in
    (may, sym (c.proposal.ensures s l h k) ∙ c.in_ok-proposal.was)
