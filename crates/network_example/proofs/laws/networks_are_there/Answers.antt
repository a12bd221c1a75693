use Rattle.network_example.proofs.Network.{is-example}
use Rattle.network_example.proofs.laws.networks_are_there.Goals as goal

pub returns : goal.returns
returns g c = λ f scheme x keys packets. is-example g.S.Scheme f scheme x keys packets
