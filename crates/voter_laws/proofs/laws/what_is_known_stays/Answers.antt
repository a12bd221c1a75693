use Rattle.voter_laws.proofs.Lasting.{prune_keeps_uses, views_never_fall, what_is_known_stays}
use Rattle.voter_laws.proofs.laws.what_is_known_stays.Goals as goal

pub returns : goal.returns
returns g c = record { known = what_is_known_stays; views = views_never_fall; pruned = prune_keeps_uses }
