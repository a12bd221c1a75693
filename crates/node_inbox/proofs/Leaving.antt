-- What a crash leaves while nothing is asked of the disks.
use Rattle.std.proofs.Common.{◌≡◌, inl, ℕ, List}
use Rattle.journal_single.specs.declared.disk.Disk as disk
use Rattle.journal_books.specs.declared.books.Books.{Books}
use Rattle.journal_books.specs.Books.{IsWithOrWithout, LeaveBook}
use Rattle.journal_books.specs.BooksLaws.{book_weaker}

-- where a crash leaves the record, it leaves it with one more artifact or without
pub left_without : {M K : Type 0} (k : disk.Ghosts K) (old new : Books M K) (bodies : List (List ℕ)) (body : List ℕ) → LeaveBook k old new (λ read. read ≡ bodies) → LeaveBook k old new (IsWithOrWithout bodies body)
left_without k old new bodies body leaves = book_weaker k (λ read. read ≡ bodies) (IsWithOrWithout bodies body) (λ read is. inl is) old new leaves
