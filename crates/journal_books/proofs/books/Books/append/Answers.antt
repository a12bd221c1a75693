use Rattle.std.proofs.Common.{⊎_elim, inl, inr, Err, ap}
use Rattle.journal_single.specs.Journal.{Standing}
use Rattle.simplex_journal.specs.Standing.{PairStanding}
use Rattle.journal_books.specs.declared.books.Books.TheVariants as books
use Rattle.journal_books.proofs.Refusals.{but_device}
use Rattle.journal_books.proofs.Weaker.{one-read}
use Rattle.journal_books.proofs.books.Books.append.Goals as goal

pub returns-in-Ok-clause-any_moment : goal.returns-in-Ok-clause-any_moment
returns-in-Ok-clause-any_moment g c = rw c.in-One.is (λ messages keeps is. one-read _ _ (c.append.ensures.any_moment messages keeps is))

pub returns-in-Err-clause-any_moment : goal.returns-in-Err-clause-any_moment
returns-in-Err-clause-any_moment g c = rw c.in-One.is (λ messages keeps is. one-read _ _ (c.append.ensures.any_moment messages keeps is))

pub returns-in-Two-clause-any_moment : goal.returns-in-Two-clause-any_moment
returns-in-Two-clause-any_moment g c = rw c.in-Two.is (λ messages keeps is. (c.append-in-Two.ensures.which, c.append-in-Two.ensures.generation, c.append-in-Two.ensures.one_disk messages keeps is))

-- where no disk failed, the journal is as it was
pub returns-in-Err-clause-no_device : goal.returns-in-Err-clause-no_device
returns-in-Err-clause-no_device g c = rw c.in-One.is (λ other. ⊎_elim
    (λ device. absurd (other (c.told.ensures.device.1 device)))
    (λ rest. ⊎_elim
    (λ is. ap (λ (j : Standing g.row.K.Denot). g.K.Disk.failed j.disk) (c.in-Err.ensures.memory (ap Err is)))
    (λ more. ⊎_elim
    (λ is. ap (λ (j : Standing g.row.K.Denot). g.K.Disk.failed j.disk) (c.in-Err.ensures.too_long (ap Err is)).0)
    (λ is. ap (λ (j : Standing g.row.K.Denot). g.K.Disk.failed j.disk) (c.in-Err.ensures.failed (ap Err is)).0) more) rest)
    c.in-Err.ensures.faults)

-- and so it is told
pub returns-in-Err-clause-unchanged : goal.returns-in-Err-clause-unchanged
returns-in-Err-clause-unchanged g c = rw c.in-One.is (λ other. ⊎_elim
    (λ device. absurd (other (c.told.ensures.device.1 device)))
    (λ rest. ⊎_elim
    (λ is. ap books.One (c.in-Err.ensures.memory (ap Err is)))
    (λ more. ⊎_elim (λ is. ap books.One (c.in-Err.ensures.too_long (ap Err is)).0) (λ is. ap books.One (c.in-Err.ensures.failed (ap Err is)).0) more) rest)
    c.in-Err.ensures.faults)

pub returns-in-Two-clause-unchanged : goal.returns-in-Two-clause-unchanged
returns-in-Two-clause-unchanged g c = rw c.in-Two.is (but_device c.append-in-Two.result c.append-in-Two.ensures.faults
    (λ is. ap books.Two (c.append-in-Two.ensures.memory is))
    (λ is. ap books.Two (c.append-in-Two.ensures.too_long is).0)
    (λ is. ap books.Two (c.append-in-Two.ensures.failed is).0))

pub returns-in-Err-clause-faults : goal.returns-in-Err-clause-faults
returns-in-Err-clause-faults g c = ⊎_elim
    (λ device. inl (c.told.ensures.device.1 device))
    (λ rest. inr (⊎_elim
    (λ memory. inl (c.told.ensures.memory.1 memory))
    (λ more. inr (⊎_elim (λ long. inl (c.told.ensures.too_long.1 long)) (λ failed. inr (c.told.ensures.failed.1 failed)) more)) rest))
    c.in-Err.ensures.faults

pub returns-in-Two-clause-no_device : goal.returns-in-Two-clause-no_device
returns-in-Two-clause-no_device g c = rw c.in-Two.is (but_device c.append-in-Two.result c.append-in-Two.ensures.faults
    (λ is. let same = c.append-in-Two.ensures.memory is in (ap (λ (p : PairStanding g.row.K.Denot). g.K.Disk.failed p.first) same, ap (λ (p : PairStanding g.row.K.Denot). g.K.Disk.failed p.second) same))
    (λ is. let same = (c.append-in-Two.ensures.too_long is).0 in (ap (λ (p : PairStanding g.row.K.Denot). g.K.Disk.failed p.first) same, ap (λ (p : PairStanding g.row.K.Denot). g.K.Disk.failed p.second) same))
    (λ is. let same = (c.append-in-Two.ensures.failed is).0 in (ap (λ (p : PairStanding g.row.K.Denot). g.K.Disk.failed p.first) same, ap (λ (p : PairStanding g.row.K.Denot). g.K.Disk.failed p.second) same)))
