use Rattle.simplex_record.proofs.Recording.{none_in_the_way}
use Rattle.simplex_record.proofs.laws.no_own_vote_stands_in_the_way.Goals as goal

pub returns : goal.returns
returns g c = none_in_the_way
