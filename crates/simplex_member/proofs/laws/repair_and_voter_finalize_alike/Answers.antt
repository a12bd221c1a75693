use Rattle.simplex_member.proofs.Abreast.{finalized-alike}
use Rattle.simplex_member.proofs.laws.repair_and_voter_finalize_alike.Goals as goal

pub returns : goal.returns
returns g c = λ f s h. finalized-alike f s h
