use Rattle.simplex_member.proofs.Living.{all-lives-lawful}
use Rattle.simplex_member.proofs.laws.lives_leave_lawful.Goals as goal

pub returns : goal.returns
returns g c = λ f s lives all left led. all-lives-lawful g.S.Scheme f c.lives_obey.ensures s lives all left led
