use Rattle.simplex_member.proofs.Walking.{reached-goes, reached-heard, reached-own}
use Rattle.simplex_member.proofs.laws.histories_of_lives_are_gone_to.Goals as goal

pub returns : goal.returns
returns g c = λ f scheme m world w i correct life h at. (
  reached-own g.S.Scheme f scheme m world i w correct life h at,
  (at.before, reached-goes g.S.Scheme f scheme m world i w correct life h at),
  reached-heard g.S.Scheme f scheme m world i w correct life h at,
)
