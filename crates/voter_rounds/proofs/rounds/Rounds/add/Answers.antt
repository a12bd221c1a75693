use Rattle.std.proofs.Common.{refl}
use Rattle.voter_rounds.specs.Rounds.{Keep}
use Rattle.voter_rounds.proofs.Choices.{none_from_test}
use Rattle.voter_rounds.proofs.Tables.{AreOpen-there}
use Rattle.voter_rounds.proofs.rounds.Rounds.add.Goals as goal

pub returns-then-has-clause-opens : goal.returns-then-has-clause-opens
unfolding Keep
returns-then-has-clause-opens g c = λ s led past k. record {
  scheme = k.scheme;
  epoch = k.epoch;
  rounds = AreOpen-there c.args.view k.rounds c.get-number.ensures.fits (rw (← c.if-has.ensures) refl);
}

pub returns-clause-opens : goal.returns-clause-opens
returns-clause-opens g c = λ s led past k. c.in_ok-add_fresh.ensures.opens s led past k (none_from_test c.if-has.ensures)
