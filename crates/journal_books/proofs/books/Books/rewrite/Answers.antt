use Rattle.journal_books.proofs.Weaker.{two-read}
use Rattle.journal_books.proofs.books.Books.rewrite.Goals as goal

pub returns-in-Two-clause-any_moment : goal.returns-in-Two-clause-any_moment
returns-in-Two-clause-any_moment g c = rw c.in-Two.is (λ messages keeps is two. two-read _ _ (c.rewrite.ensures.any_moment messages keeps is))
