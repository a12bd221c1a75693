use Rattle.types_core.specs.LatestFirst.{as_key}
use Rattle.node_votes.proofs.Changing.{apart-at, keys-apart}
use Rattle.node_votes.proofs.rounds.Rounds.forget.Goals as goal

pub returns-clause-others : goal.returns-clause-others
returns-clause-others g c = λ u ne. record {
  rounds = c.remove.ensures.updates.2 (as_key u) (keys-apart c.args.view u ne);
  touched = c.remove-2.ensures.updates.2 u (apart-at c.args.view u ne);
  unled = c.remove-3.ensures.updates.2 u (apart-at c.args.view u ne);
}
