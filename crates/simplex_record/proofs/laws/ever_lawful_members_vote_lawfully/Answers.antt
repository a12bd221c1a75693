use Rattle.simplex_record.proofs.Recording.{votes_lawfully}
use Rattle.simplex_record.proofs.laws.ever_lawful_members_vote_lawfully.Goals as goal

pub returns : goal.returns
returns g c = λ scheme owner artifacts lawful. votes_lawfully artifacts lawful
