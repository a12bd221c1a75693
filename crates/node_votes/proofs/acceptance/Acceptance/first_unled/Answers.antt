use Rattle.simplex_member.specs.Layers.{stage, votes_of}
use Rattle.node_votes.specs.KeepsVotes.{Keeps, common_part}
use Rattle.node_votes.proofs.acceptance.Acceptance.first_unled.Goals as goal

pub returns-clause-first : goal.returns-clause-first
unfolding Keeps
returns-clause-first g c = λ s h k. c.first_unled.ensures.first (common_part s) (stage s h) (votes_of s h) k.rounds
