use Rattle.simplex_member.proofs.Living.{parents-lie}
use Rattle.simplex_member.proofs.laws.parents_lie_from_the_floor.Goals as goal

pub returns : goal.returns
returns g c = λ f s lives all left before behind v led is. parents-lie g.S.Scheme f c.lives_obey.ensures s lives all left before behind v led is
