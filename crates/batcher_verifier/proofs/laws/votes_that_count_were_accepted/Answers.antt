use Rattle.std.proofs.lemmas.List.Elements.{All-contains}
use Rattle.batcher_verifier.specs.History.{waiting, verified}
use Rattle.batcher_verifier.proofs.Tracing.{WasAccepted, counted-accepted}
use Rattle.batcher_verifier.proofs.laws.votes_that_count_were_accepted.Goals as goal

pub returns : goal.returns
returns g c = let same = g.D.PartialEq.eq in record {
  waiting = λ s h kind v there. (All-contains (WasAccepted same s kind h) (waiting same s kind h) v (counted-accepted same s kind h).0 there).0;
  verified = λ s h kind v there. (All-contains (WasAccepted same s kind h) (verified same s kind h) v (counted-accepted same s kind h).1 there).0;
  waiting_kind = λ s h kind v there. (All-contains (WasAccepted same s kind h) (waiting same s kind h) v (counted-accepted same s kind h).0 there).1;
  verified_kind = λ s h kind v there. (All-contains (WasAccepted same s kind h) (verified same s kind h) v (counted-accepted same s kind h).1 there).1;
}
