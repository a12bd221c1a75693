use Rattle.batcher_verifier.proofs.Tracing.{due-open}
use Rattle.batcher_verifier.proofs.laws.what_is_due_has_no_certificate.Goals as goal

pub returns : goal.returns
returns g c = λ s h kind some due. due-open g.D.PartialEq.eq s kind h some due
