use Rattle.simplex_member.proofs.Unsent.{none-left}
use Rattle.simplex_member.proofs.sent.none_stays_unsent.Goals as goal

pub returns : goal.returns
returns g c = λ f scheme m world w i correct life among h here. none-left g.S.Scheme f scheme m world w i correct life among h here
