use Rattle.std.proofs.Common.{refl}
use Rattle.batcher_verifier.specs.Keeping.{VerifierKeeps}
use Rattle.batcher_verifier.proofs.verifier.Verifier.construct_of_verified.Goals as goal

pub returns-clause-batch : goal.returns-clause-batch
unfolding VerifierKeeps
returns-clause-batch g c = λ s h k ready. record {
  none_processed = refl;
  none_invalid = c.new.ensures.items;
  no_fallback = refl;
  certificate = c.in-Some.certificate;
  made = refl;
  certificate_is = (rw c.in-Some.is at c.in_ok-certificate.ensures.made) s h k ready;
}
