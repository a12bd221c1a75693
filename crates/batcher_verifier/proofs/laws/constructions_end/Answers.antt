use Rattle.batcher_verifier.proofs.Finishing.{fewer-left}
use Rattle.batcher_verifier.proofs.laws.constructions_end.Goals as goal

pub returns : goal.returns
returns g c = λ s h kind batch some lawful next is. fewer-left g.S.Scheme g.D.PartialEq.eq g.met.D.Digest.equal_is_same s some h lawful kind batch next is
