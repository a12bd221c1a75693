use Rattle.simplex_member.specs.Layers.{stage, votes_of}
use Rattle.node_votes.specs.KeepsVotes.{Keeps, common_part}
use Rattle.node_votes.proofs.acceptance.Acceptance.is_missing_voter.Goals as goal

pub returns : goal.returns
unfolding Keeps
returns g c = λ s h k. c.is_missing_voter.ensures (common_part s) (stage s h) (votes_of s h) k.rounds
