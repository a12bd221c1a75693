use Rattle.batcher_verifier.specs.Keeping.{held_by}
use Rattle.batcher_verifier.proofs.verifier.Verifier.proposal.Goals as goal

pub returns-clause-held : goal.returns-clause-held
unfolding held_by
returns-clause-held g c = c.proposal.ensures
