use Rattle.node_votes.proofs.Opening.{both-there}
use Rattle.node_votes.proofs.rounds.Rounds.is_up.Goals as goal

pub returns : goal.returns
returns g c = λ s up happened k. rw c.contains_key.ensures (both-there g.S.Scheme g.D.PartialEq.eq s c.args.view _ (up c.args.view) (happened c.args.view) (k.kept c.args.view))
