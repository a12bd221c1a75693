use Rattle.simplex_record.proofs.Recording.{whole_votes_lawfully}
use Rattle.simplex_record.proofs.laws.whole_records_vote_lawfully.Goals as goal

pub returns : goal.returns
returns g c = λ scheme owner artifacts lawful. whole_votes_lawfully artifacts lawful
