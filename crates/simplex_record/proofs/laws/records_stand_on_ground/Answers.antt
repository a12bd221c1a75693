use Rattle.simplex_record.proofs.Grounds.{nothing_stands, stands_further}
use Rattle.simplex_record.proofs.laws.records_stand_on_ground.Goals as goal

pub returns : goal.returns
returns g c = record { first = nothing_stands; further = stands_further }
