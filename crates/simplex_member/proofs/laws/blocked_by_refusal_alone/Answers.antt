use Rattle.simplex_member.proofs.Walk.{refused-alone}
use Rattle.simplex_member.proofs.laws.blocked_by_refusal_alone.Goals as goal

pub returns : goal.returns
returns g c = λ f exact back scheme m world w faithful alike i j ci cj out. refused-alone g.S.Scheme f scheme m world i (c.rounds_obey.ensures f exact) c.lives_obey.ensures back w faithful alike j ci cj out
