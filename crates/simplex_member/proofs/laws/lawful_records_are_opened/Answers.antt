use Rattle.simplex_member.proofs.Opening.{lawful-opened}
use Rattle.simplex_member.proofs.laws.lawful_records_are_opened.Goals as goal

pub returns : goal.returns
returns g c = λ f s now found exact early lawful. lawful-opened g.S.Scheme f s exact found lawful now early
