use Rattle.std.proofs.Common.{refl}
use Rattle.voter_rounds.proofs.Lent.{Follows-open}
use Rattle.voter_rounds.proofs.Tables.{AreOpen-at}
use Rattle.voter_rounds.proofs.rounds.Rounds.open.Goals as goal

pub returns : goal.returns
returns g c = (
  (refl, λ w _. Follows-open c.args.view w c.in_ok-add.ensures.opens ((c.get_mut.follows.holds w).3 c.in_ok-add.ensures.there), tt),
  record { writes_back = tt; stands = λ s led past k. AreOpen-at (c.in_ok-add.ensures.opens s led past k).rounds c.in-Some.ensures.value },
)
