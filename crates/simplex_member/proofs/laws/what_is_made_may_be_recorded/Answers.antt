use Rattle.simplex_member.proofs.Constructing.{made-allowed}
use Rattle.simplex_member.proofs.laws.what_is_made_may_be_recorded.Goals as goal

pub returns : goal.returns
returns g c = λ f s exact h view kind batch some all begun up next is read. made-allowed g.S.Scheme f s c.records_obey.ensures (c.rounds_obey.ensures f exact) some h all view up kind next batch is begun read
