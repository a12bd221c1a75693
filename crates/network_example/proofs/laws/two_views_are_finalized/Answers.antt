use Rattle.network_example.proofs.Chained.{is-finalizing}
use Rattle.network_example.proofs.laws.two_views_are_finalized.Goals as goal

pub returns : goal.returns
returns g c = λ f scheme x lone can. is-finalizing g.S.Scheme f x scheme lone can
