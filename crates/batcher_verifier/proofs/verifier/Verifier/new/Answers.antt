use Rattle.std.proofs.Common.{false}
use Rattle.batcher_verifier.specs.Keeping.{VerifierKeeps}
use Rattle.batcher_verifier.proofs.verifier.Verifier.new.Goals as goal

pub returns : goal.returns
unfolding VerifierKeeps
returns g c = c.open.ensures false
