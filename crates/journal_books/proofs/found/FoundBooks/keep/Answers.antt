use Rattle.journal_books.proofs.Looking.{one_since, one_until, two_since, two_until}
use Rattle.journal_books.proofs.found.FoundBooks.keep.Goals as goal

pub returns-in-Ok-clause-any_moment : goal.returns-in-Ok-clause-any_moment
returns-in-Ok-clause-any_moment g c = rw c.in-One.is (λ messages before k has look may.
    one_since g.K.Disk g.M.Write.spelling messages _ before _ has look (c.in-Ok.ensures.any_moment messages k has))

pub returns-in-Err-clause-any_moment_of_a_fault : goal.returns-in-Err-clause-any_moment_of_a_fault
returns-in-Err-clause-any_moment_of_a_fault g c = rw c.in-One.is (λ messages before k has look may.
    one_until g.K.Disk g.M.Write.spelling messages _ before _ has look (c.in-Err.ensures.any_moment_of_a_fault messages k has))

pub returns-in-Ok-keep-clause-any_moment : goal.returns-in-Ok-keep-clause-any_moment
returns-in-Ok-keep-clause-any_moment g c = rw c.in-Two.is (λ messages before k has look may.
    two_since g.K.Disk g.M.Write.spelling messages _ before _ look may (λ a b asked. c.in-Ok-keep.ensures.any_moment messages _ _ k has asked))

pub returns-in-Err-keep-clause-any_moment_of_a_fault : goal.returns-in-Err-keep-clause-any_moment_of_a_fault
returns-in-Err-keep-clause-any_moment_of_a_fault g c = rw c.in-Two.is (λ messages before k has look may.
    two_until g.K.Disk g.M.Write.spelling messages _ before _ _ _ _ look may (λ a b asked. c.in-Err-keep.ensures.any_moment_of_a_fault messages _ _ k has asked))
