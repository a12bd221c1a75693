use Rattle.simplex_member.proofs.Walking.{deed-done}
use Rattle.simplex_member.proofs.laws.deeds_are_done.Goals as goal

pub returns : goal.returns
returns g c = λ f scheme m world w i correct d out. deed-done g.S.Scheme f scheme m world i w correct d out
