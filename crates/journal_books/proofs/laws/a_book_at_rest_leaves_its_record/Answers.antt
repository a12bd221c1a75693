use Rattle.journal_books.proofs.Resting.{book_rests}
use Rattle.journal_books.proofs.laws.a_book_at_rest_leaves_its_record.Goals as goal

pub returns : goal.returns
returns g c = λ books messages is. book_rests g.K.Disk g.M.Write.spelling messages (λ pair record_is. c.a_pair_at_rest_leaves_its_record.ensures pair messages record_is) books is
