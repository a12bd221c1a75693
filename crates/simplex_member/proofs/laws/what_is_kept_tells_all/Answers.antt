use Rattle.simplex_member.proofs.Kept.{tells-all}
use Rattle.simplex_member.proofs.laws.what_is_kept_tells_all.Goals as goal

pub returns : goal.returns
returns g c = λ f s h all. tells-all g.S.Scheme f s c.what_is_known_is_recorded.ensures h all
