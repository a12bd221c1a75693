use Rattle.network_example.proofs.Based.{is-based}
use Rattle.network_example.proofs.laws.members_begin_at_floors.Goals as goal

pub returns : goal.returns
returns g c = λ f scheme x keys kept. is-based g.S.Scheme f scheme x keys kept
