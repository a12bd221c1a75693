use Rattle.simplex_member.proofs.Again.{unsettled-go-again}
use Rattle.simplex_member.proofs.repairing.unsettled_asks_go_again.Goals as goal

pub returns : goal.returns
returns g c = λ f s. unsettled-go-again g.S.Scheme f s
