use Rattle.simplex_resolver.proofs.Serving.{what-is-produced-came}
use Rattle.simplex_resolver.proofs.laws.what_is_produced_came.Goals as goal

pub returns : goal.returns
returns c = what-is-produced-came
