use Rattle.std.proofs.Common.{inl}
use Rattle.journal_books.specs.BooksLaws.{book_weaker}
use Rattle.node_record.proofs.ledger.Ledger.record.Goals as goal

-- no room for one more: nothing was asked of a disk
pub returns-in_default-clause-any_moment : goal.returns-in_default-clause-any_moment
returns-in_default-clause-any_moment g c = λ owner xs k keeps. book_weaker g.K.Disk _ _ (λ read is. inl is) _ _ (c.a_book_at_rest_leaves_its_record.ensures c.args.self.now.books xs (k.journal keeps))

pub returns-in-Ok-add-clause-keeps : goal.returns-in-Ok-add-clause-keeps
returns-in-Ok-add-clause-keeps g c = λ owner xs k follows. record {
  holds = c.in-Ok-add.ensures owner xs (c.reserve.ensures.same owner xs k.holds) follows;
  runs = c.in-Ok-append.ensures.stays_open;
  journal = λ keeps. c.in-Ok-append.ensures.record xs keeps (k.journal keeps);
}
