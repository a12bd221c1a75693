use Rattle.voter_laws.proofs.Windowing.{windows_agree}
use Rattle.voter_laws.proofs.laws.windows_are_one.Goals as goal

pub returns : goal.returns
returns g c = windows_agree
