use Rattle.simplex_member.proofs.Timely.{uncut}
use Rattle.simplex_member.proofs.laws.early_moments_are_in_time.Goals as goal

pub returns : goal.returns
returns g c = λ s now early. uncut s now early
