use Rattle.std.proofs.Common.{arith}
use Rattle.simplex_resolver.proofs.state.State.new.Goals as goal

pub returns-clause-keeps : goal.returns-clause-keeps
returns-clause-keeps c = record { stands = c.new.ensures.keeps; fits = λ v failed. absurd (grind (arith, failed)) }
