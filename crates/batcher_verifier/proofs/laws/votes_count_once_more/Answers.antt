use Rattle.batcher_verifier.proofs.Folding.{waiting-count, verified-count}
use Rattle.batcher_verifier.proofs.laws.votes_count_once_more.Goals as goal

pub returns : goal.returns
returns g c = record {
  waiting = λ s h kind. waiting-count g.D.PartialEq.eq s kind h;
  verified = λ s h kind. verified-count g.D.PartialEq.eq s kind h;
}
