use Rattle.batcher_verifier.proofs.Kept.{none-lost}
use Rattle.batcher_verifier.proofs.laws.no_quorum_is_lost.Goals as goal

pub returns : goal.returns
returns g c = λ s h made lawful none. none-lost g.D.PartialEq.eq g.met.D.Digest.equal_is_same g.S.Scheme.attests s h made lawful none
