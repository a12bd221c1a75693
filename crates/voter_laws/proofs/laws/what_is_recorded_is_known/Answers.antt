use Rattle.voter_laws.proofs.Matched.{each_record_is_known}
use Rattle.voter_laws.proofs.laws.what_is_recorded_is_known.Goals as goal

pub returns : goal.returns
returns g c = each_record_is_known
