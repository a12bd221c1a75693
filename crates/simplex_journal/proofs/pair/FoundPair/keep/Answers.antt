use Rattle.std.proofs.Common.{map}
use Rattle.simplex_journal.proofs.Reopening.{kept_since}
use Rattle.simplex_journal.proofs.pair.FoundPair.keep.Goals as goal

pub returns-in-Ok-clause-any_moment : goal.returns-in-Ok-clause-any_moment
returns-in-Ok-clause-any_moment g c = rw (← c.self.view_is) (λ messages before before-2 k has asked.
    kept_since _ _ _ _ _ _ _ _ _ _ _ _ _ _ has asked.left asked.left-2 asked.synced asked.synced-2 (c.finish_chosen.ensures.any_moment _ (map g.M.Write.spelling messages) k has))

pub returns-in-Err-clause-any_moment_of_a_fault : goal.returns-in-Err-clause-any_moment_of_a_fault
returns-in-Err-clause-any_moment_of_a_fault g c = rw (← c.self.view_is) (λ messages before before-2 k has asked.
    kept_since _ _ _ _ _ _ _ _ _ _ _ _ _ _ has asked.left asked.left-2 asked.synced asked.synced-2 (c.finish_chosen.ensures.any_moment _ (map g.M.Write.spelling messages) k has))
