use Rattle.simplex_record.proofs.Recording.{notarized_before}
use Rattle.simplex_record.proofs.laws.verdicts_follow_their_notarizations.Goals as goal

pub returns : goal.returns
returns g c = λ scheme owner before after round verdict lawful. notarized_before before after round verdict lawful
