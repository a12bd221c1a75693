use Rattle.batcher_verifier.specs.Keeping.{VerifierKeeps}
use Rattle.batcher_verifier.proofs.verifier.Verifier.waiting.Goals as goal

pub returns : goal.returns
unfolding VerifierKeeps
returns g c = λ s h k. rw c.tally.ensures (k.rows.kinds c.args.kind).waiting_count
