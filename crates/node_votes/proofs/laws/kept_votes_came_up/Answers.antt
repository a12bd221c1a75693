use Rattle.simplex_member.specs.Layers.{stage, votes_of}
use Rattle.node_votes.specs.KeepsVotes.{Keeps, common_part}
use Rattle.node_votes.proofs.Opening.{came-where-kept}
use Rattle.node_votes.proofs.laws.kept_votes_came_up.Goals as goal

pub returns : goal.returns
unfolding Keeps
returns g c = λ s a h view k some. came-where-kept g.S.Scheme g.D.PartialEq.eq (common_part s) view _ (stage s h view) (votes_of s h view) (k.rounds.kept view) some
