use Rattle.voter_laws.proofs.Placed.{held_lies_in_its_view}
use Rattle.voter_laws.proofs.laws.held_lies_in_its_view.Goals as goal

pub returns : goal.returns
returns g c = held_lies_in_its_view
