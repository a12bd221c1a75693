use Rattle.simplex_member.proofs.Living.{left-of-all}
use Rattle.simplex_member.proofs.laws.lives_leave_all.Goals as goal

pub returns : goal.returns
returns g c = λ f s lives all left led. left-of-all g.S.Scheme f c.lives_obey.ensures s lives all left led
