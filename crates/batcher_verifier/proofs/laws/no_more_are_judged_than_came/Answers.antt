use Rattle.batcher_verifier.proofs.Spending.{spends-event, spends-batch, waits-taken}
use Rattle.batcher_verifier.proofs.laws.no_more_are_judged_than_came.Goals as goal

pub returns : goal.returns
returns g c = record {
  events = λ s h e. spends-event g.D.PartialEq.eq s e h;
  batches = λ s h kind batch is. spends-batch g.S.Scheme g.D.PartialEq.eq s kind h batch is;
  waiting = λ s h. waits-taken g.D.PartialEq.eq s h;
}
