use Rattle.voter_rules.proofs.Single.{one_is_supported, one_is_preferred}
use Rattle.voter_rules.proofs.laws.one_payload_is_built_on.Goals as goal

pub returns : goal.returns
returns g c = record { supported = one_is_supported; preferred = one_is_preferred }
