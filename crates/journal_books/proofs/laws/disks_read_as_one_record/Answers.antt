use Rattle.journal_books.specs.BooksLaws.{read_once}
use Rattle.journal_books.proofs.Looking.{any_read, untouched_leaves}
use Rattle.journal_books.proofs.laws.disks_read_as_one_record.Goals as goal

pub returns-clause-some : goal.returns-clause-some
returns-clause-some g c = λ on keeps. any_read g.K.Disk (λ d. g.met.K.Disk.seen_is_left d keeps) on

pub returns-clause-one : goal.returns-clause-one
returns-clause-one g c = λ on read others one other. read_once g.K.Disk on read others one other

pub returns-clause-untouched : goal.returns-clause-untouched
returns-clause-untouched g c = λ on. untouched_leaves g.K.Disk on
