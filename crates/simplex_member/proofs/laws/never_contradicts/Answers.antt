use Rattle.simplex_member.proofs.Living.{all-lives-lawful, none-refused}
use Rattle.simplex_member.proofs.laws.never_contradicts.Goals as goal

pub returns : goal.returns
returns g c = λ f s lives all left position led refused. none-refused g.S.Scheme f c.lives_obey.ensures s left position (all-lives-lawful g.S.Scheme f c.lives_obey.ensures s lives all left led) refused
