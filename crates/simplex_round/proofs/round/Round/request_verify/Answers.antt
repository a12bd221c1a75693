use Rattle.simplex_round.specs.Round.{Keeps}
use Rattle.simplex_round.proofs.round.Round.request_verify.Goals as goal

pub returns-clause-answer : goal.returns-clause-answer
unfolding Keeps
returns-clause-answer g c = λ s l h k.
    let may = (c.may_verify.ensures s l h k).0 c.if-not-may_verify.false in
    (λ yes. may, λ again. (c.request_verify.ensures.answer _ k.proposal).1 may.first)
