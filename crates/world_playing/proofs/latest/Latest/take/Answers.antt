use Rattle.std.proofs.Common.{inr, ap}
use Rattle.voter_rules.specs.declared.floor.Floor.TheVariants.{Finalized}
use Rattle.world_playing.proofs.latest.Latest.take.Goals as goal

-- src/latest.rt:33:5
pub returns-in_ok-duplicate-in-Finalization-clause-no_other : goal.returns-in_ok-duplicate-in-Finalization-clause-no_other
returns-in_ok-duplicate-in-Finalization-clause-no_other g c =
    inr (c.in-Finalization.it, c.in-Finalization.is, ap Finalized c.in_ok-duplicate-in-Finalization.ensures)
