use Rattle.batcher_verifier.proofs.Rightly.{judged-right}
use Rattle.batcher_verifier.proofs.Stating.{waiting-state}
use Rattle.batcher_verifier.proofs.laws.verdicts_on_attestations_are_right.Goals as goal

pub returns : goal.returns
returns g c = λ s h kind x failing lawful on are.
    judged-right g.D.PartialEq.eq g.S.Scheme.attests s kind h lawful x failing on (waiting-state g.D.PartialEq.eq g.met.D.Digest.equal_is_same g.S.Scheme.attests s kind h lawful x on) are
