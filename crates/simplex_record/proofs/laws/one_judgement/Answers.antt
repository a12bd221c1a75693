use Rattle.simplex_record.proofs.Soundness.{ever-fits}
use Rattle.simplex_record.proofs.laws.one_judgement.Goals as goal

pub returns : goal.returns
returns g c = λ scheme owner ever kept x some recorded high fits. ever-fits some x recorded high fits
