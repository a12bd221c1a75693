use Rattle.batcher_verifier.proofs.Stating.{states, waiting-state, verified-state}
use Rattle.batcher_verifier.proofs.laws.votes_that_count_state_it.Goals as goal

pub returns : goal.returns
returns g c = record {
  candidates = λ kind round p x v e mine ours counts. states g.D.PartialEq.eq g.met.D.Digest.equal_is_same kind round p x v e mine ours counts;
  waiting = λ s h kind x lawful e. waiting-state g.D.PartialEq.eq g.met.D.Digest.equal_is_same g.S.Scheme.attests s kind h lawful x e;
  verified = λ s h kind x lawful e. verified-state g.D.PartialEq.eq g.met.D.Digest.equal_is_same g.S.Scheme.attests s kind h lawful x e;
}
