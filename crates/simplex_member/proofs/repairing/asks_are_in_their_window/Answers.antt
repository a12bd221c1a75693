use Rattle.simplex_member.proofs.Asks.{in-their-window}
use Rattle.simplex_member.proofs.repairing.asks_are_in_their_window.Goals as goal

pub returns : goal.returns
returns g c = λ f s. in-their-window g.S.Scheme f s
