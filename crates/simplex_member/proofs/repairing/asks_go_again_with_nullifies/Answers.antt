use Rattle.simplex_member.proofs.Asks.{went-with-nullify}
use Rattle.simplex_member.proofs.repairing.asks_go_again_with_nullifies.Goals as goal

pub returns : goal.returns
returns g c = λ f s. went-with-nullify g.S.Scheme f s
