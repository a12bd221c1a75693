use Rattle.batcher_verifier.specs.Keeping.{VerifierKeeps}
use Rattle.batcher_verifier.proofs.Choosing.{forwarded-keeps}
use Rattle.batcher_verifier.proofs.laws.forwarding_changes_no_votes.Goals as goal

pub returns : goal.returns
unfolding VerifierKeeps
returns g c = λ s verifier h k fresh. forwarded-keeps g.D.PartialEq.eq g.S.Scheme g.S.Scheme.batchable s verifier h k fresh
