use Rattle.std.proofs.Common.{sym, ◌∙◌}
use Rattle.voter_rounds.specs.Rounds.{Keep}
use Rattle.voter_rounds.proofs.Choices.{some-is}
use Rattle.voter_rounds.proofs.Tables.{AreOpen-new, same_setup}
use Rattle.voter_rounds.proofs.rounds.Rounds.add_fresh.Goals as goal

pub returns-clause-there : goal.returns-clause-there
returns-clause-there g c = some-is (sym c.in_ok-insert.ensures.updates.1)

pub returns-clause-opens : goal.returns-clause-opens
unfolding Keep
returns-clause-opens g c = λ s led past k none.
    let d = c.new-round.ensures in
    let same = same_setup (c.in_ok-clone.ensures.cases ∙ k.scheme) (c.new.ensures.epoch ∙ k.epoch) c.new.ensures.view in
    record {
      scheme = k.scheme;
      epoch = k.epoch;
      rounds = AreOpen-new c.args.view k.rounds c.get-number.ensures.fits none c.in_ok-insert.ensures.updates (rw same at d);
    }
