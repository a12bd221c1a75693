use Rattle.std.proofs.Common.{refl}
use Rattle.node_votes.specs.KeepsVotes.{common_part}
use Rattle.node_votes.proofs.acceptance.Acceptance.move_to.Goals as goal

pub returns : goal.returns
returns g c = λ s before low up happened k. record { length_is = k.length_is; current_is = refl; floor_is = refl; rounds = c.drop_below.ensures (common_part s) up happened k.rounds }
