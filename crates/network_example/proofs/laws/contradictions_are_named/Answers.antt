use Rattle.network_example.proofs.Contradicted.{is-named}
use Rattle.network_example.proofs.laws.contradictions_are_named.Goals as goal

pub returns : goal.returns
returns g c = λ f exact scheme x keys final null. is-named g.S.Scheme f g.D.Ord.cmp scheme x keys final null (c.accountability.ensures.reported_enough f exact)
