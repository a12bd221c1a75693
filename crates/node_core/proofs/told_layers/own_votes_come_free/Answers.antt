use Rattle.simplex_messages.specs.VoteParts.{vote_artifact}
use Rattle.simplex_member.specs.Point.{Found, Votes}
use Rattle.node_core.proofs.Free.{found-brings, free, made-brings}
use Rattle.node_core.proofs.told_layers.own_votes_come_free.Goals as goal

pub returns-clause-found : goal.returns-clause-found
returns-clause-found g c = λ f s h v taken exact all room. free g.S.Scheme f s (c.votes_are_lawful.ensures f s exact) h (Found (vote_artifact v) taken) v (found-brings g.S.Scheme f s h v taken) all room

pub returns-clause-made : goal.returns-clause-made
returns-clause-made g c = λ f s h v exact all room. free g.S.Scheme f s (c.votes_are_lawful.ensures f s exact) h (Votes v) v (made-brings g.S.Scheme f s h v) all room
