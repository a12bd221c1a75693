use Rattle.batcher_verifier.proofs.Lawfully.{new-added}
use Rattle.batcher_verifier.proofs.laws.what_is_new_may_be_added.Goals as goal

pub returns : goal.returns
returns g c = λ s h v new. new-added g.D.PartialEq.eq s h v new
