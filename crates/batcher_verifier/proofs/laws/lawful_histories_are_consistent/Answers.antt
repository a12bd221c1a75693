use Rattle.batcher_verifier.proofs.Lawfully.{lawful-consistent}
use Rattle.batcher_verifier.proofs.laws.lawful_histories_are_consistent.Goals as goal

pub returns : goal.returns
returns g c = λ s h lawful. lawful-consistent g.D.PartialEq.eq g.S.Scheme.attests s h lawful
