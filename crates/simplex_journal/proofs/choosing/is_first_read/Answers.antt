use Rattle.std.proofs.Common.{arith}
use Rattle.simplex_journal.specs.GenerationLaws.{below_number}
use Rattle.simplex_journal.proofs.choosing.is_first_read.Goals as goal

pub returns-then-one-two-clause-chosen : goal.returns-then-one-two-clause-chosen
returns-then-one-two-clause-chosen g c = λ k.
    (c.in_ok-one.one, c.in_ok-one.ensures.number k, below_number _ c.in_ok-two.two _ (c.in_ok-two.ensures.number k) (omega (arith, c.if-one-two.true)))

pub returns-clause-chosen : goal.returns-clause-chosen
returns-clause-chosen g c = λ k.
    (c.in_ok-two.two, c.in_ok-two.ensures.number k, (omega (arith, c.if-one-two.false), below_number _ c.in_ok-one.one _ (c.in_ok-one.ensures.number k) (omega (arith, c.if-one-two.false))))
