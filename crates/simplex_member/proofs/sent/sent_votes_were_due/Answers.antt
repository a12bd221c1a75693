use Rattle.simplex_member.proofs.Unsent.{sent-due}
use Rattle.simplex_member.proofs.sent.sent_votes_were_due.Goals as goal

pub returns : goal.returns
returns g c = λ f scheme m world w i correct to v out. sent-due g.S.Scheme f scheme m world w i correct to v out
