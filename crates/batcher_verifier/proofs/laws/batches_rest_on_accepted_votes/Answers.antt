use Rattle.batcher_verifier.proofs.Tracing.{founded, failed}
use Rattle.batcher_verifier.proofs.laws.batches_rest_on_accepted_votes.Goals as goal

pub returns : goal.returns
returns g c = record {
  certificates = λ s h kind batch lawful is. founded g.S.Scheme g.D.PartialEq.eq g.met.D.Digest.equal_is_same s kind h lawful batch is;
  invalid = λ s h kind batch lawful is. failed g.S.Scheme g.D.PartialEq.eq g.met.D.Digest.equal_is_same s kind h lawful batch is;
}
