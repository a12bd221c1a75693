use Rattle.voter_rules.proofs.Alone.{one_is_found, one_is_decided}
use Rattle.voter_rules.proofs.laws.one_request_is_due.Goals as goal

pub returns : goal.returns
returns g c = record { verify = one_is_found; certify = one_is_decided }
