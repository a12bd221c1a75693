use Rattle.node_record.proofs.Lasting.{last_is}
use Rattle.node_record.proofs.laws.the_nullify_of_the_current_view_is_the_last.Goals as goal

pub returns : goal.returns
returns g c = λ scheme owner xs v w. last_is (g.S.Scheme.attests scheme) (g.S.Scheme.certifies scheme) owner xs v w
