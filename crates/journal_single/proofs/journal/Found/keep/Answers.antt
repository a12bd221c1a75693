use Rattle.std.proofs.Common.{map}
use Rattle.journal_single.proofs.journal.Found.keep.Goals as goal

pub returns-in-Ok-clause-any_moment : goal.returns-in-Ok-clause-any_moment
returns-in-Ok-clause-any_moment g c = rw (← c.self.view_is) (λ messages k has. c.finish.ensures.any_moment (map g.M.Write.spelling messages) k has.fixed has.found)

pub returns-in-Err-clause-any_moment_of_a_fault : goal.returns-in-Err-clause-any_moment_of_a_fault
returns-in-Err-clause-any_moment_of_a_fault g c = rw (← c.self.view_is) (λ messages k has. c.finish.ensures.any_moment (map g.M.Write.spelling messages) k has.fixed has.found)
