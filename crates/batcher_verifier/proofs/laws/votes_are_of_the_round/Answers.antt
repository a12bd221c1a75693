use Rattle.batcher_verifier.proofs.Stating.{accepted-ours, selected-if}
use Rattle.batcher_verifier.proofs.laws.votes_are_of_the_round.Goals as goal

pub returns : goal.returns
returns g c = record {
  accepted = λ s h v lawful there. accepted-ours g.D.PartialEq.eq g.met.D.Digest.equal_is_same g.S.Scheme.attests s h lawful v there;
  selected = λ s h lawful. selected-if g.D.PartialEq.eq g.met.D.Digest.equal_is_same g.S.Scheme.attests s h lawful;
}
