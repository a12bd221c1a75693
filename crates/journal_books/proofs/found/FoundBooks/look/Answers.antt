use Rattle.std.proofs.Common.{⊎_elim, inl, inr, ◌-◌, ◌^◌}
use Rattle.std.proofs.lemmas.List.Elements.{All-weaker}
use Rattle.types_codec.specs.Codec.{Readable}
use Rattle.journal_single.specs.LookingLaws.{looked_leaves}
use Rattle.journal_single.specs.Record.{FitsBelow}
use Rattle.journal_books.proofs.Looking.{one_look, one_reopened, two_reopened}
use Rattle.journal_books.proofs.found.FoundBooks.look.Goals as goal

-- ---- one disk

pub returns-in-Ok-clause-left : goal.returns-in-Ok-clause-left
returns-in-Ok-clause-left g c = rw c.in-One.is (λ k. (g.K.Disk.seen c.in-One.disk, g.met.K.Disk.seen_is_left c.in-One.disk k, c.in-Ok.ensures.reading k))

pub returns-in-Ok-clause-before : goal.returns-in-Ok-clause-before
returns-in-Ok-clause-before g c = rw c.in-One.is (λ k. one_look g.K.Disk (g.met.K.Disk.seen_is_left c.in-One.disk k) (c.in-Ok.ensures.untouched k))

pub returns-in-Ok-clause-any_moment : goal.returns-in-Ok-clause-any_moment
returns-in-Ok-clause-any_moment g c = rw c.in-One.is (λ k.
    one_reopened g.K.Disk c.in-One.disk _ (looked_leaves (g.met.K.Disk.seen_is_left c.in-One.disk k) (inr (c.in-Ok.ensures.untouched k).asked)))

pub returns-in-Err-clause-any_moment_of_a_fault : goal.returns-in-Err-clause-any_moment_of_a_fault
returns-in-Err-clause-any_moment_of_a_fault g c = rw c.in-One.is (λ k.
    one_reopened g.K.Disk c.in-One.disk _ (looked_leaves (g.met.K.Disk.seen_is_left c.in-One.disk k) (c.in-Err.ensures.synced_at_most k)))

pub returns-in-Err-clause-untouched_by_others : goal.returns-in-Err-clause-untouched_by_others
returns-in-Err-clause-untouched_by_others g c = rw c.in-One.is (λ other k. c.in-Err.ensures.untouched_by_others (λ it. other (c.told.ensures.device.1 it)) k)

pub returns-in-Err-clause-device : goal.returns-in-Err-clause-device
returns-in-Err-clause-device g c = rw c.in-One.is (λ is. c.in-Err.ensures.device (c.told.ensures.device.0 is))

pub returns-in-Err-clause-no_fault_of_others : goal.returns-in-Err-clause-no_fault_of_others
returns-in-Err-clause-no_fault_of_others g c = rw c.in-One.is (λ other. c.in-Err.ensures.no_fault_of_others (λ it. other (c.told.ensures.device.1 it)))

pub returns-in-Err-clause-foreign : goal.returns-in-Err-clause-foreign
returns-in-Err-clause-foreign g c = rw c.in-One.is (λ place is k. c.in-Err.ensures.foreign place ((c.told.ensures.foreign place).0 is) k)

pub returns-in-Err-clause-faults : goal.returns-in-Err-clause-faults
returns-in-Err-clause-faults g c = ⊎_elim
    (λ device. inl (c.told.ensures.device.1 device))
    (λ other. ⊎_elim (λ memory. inr (inl (c.told.ensures.memory.1 memory))) (λ foreign. inr (inr (foreign.0, (c.told.ensures.foreign foreign.0).1 foreign.1))) other)
    c.in-Err.ensures.faults

-- ---- two

pub returns-in-Ok-look-clause-readable : goal.returns-in-Ok-look-clause-readable
returns-in-Ok-look-clause-readable g c =
    let Fits = Readable g.M.Write.fits (g.M.Read.within 65535) in
    All-weaker (FitsBelow (2 ^ 32 - 1) Fits g.M.Write.spelling) Fits (λ m both. both.0) _ c.in-Ok-look.ensures.readable

pub returns-in-Ok-look-clause-left : goal.returns-in-Ok-look-clause-left
returns-in-Ok-look-clause-left g c = rw c.in-Two.is (λ k. (
  g.K.Disk.seen c.in-Two.first,
  g.K.Disk.seen c.in-Two.second,
  g.met.K.Disk.seen_is_left c.in-Two.first k,
  g.met.K.Disk.seen_is_left c.in-Two.second k,
  c.in-Ok-look.ensures.reading k,
))

pub returns-in-Ok-look-clause-any_moment : goal.returns-in-Ok-look-clause-any_moment
returns-in-Ok-look-clause-any_moment g c = rw c.in-Two.is (λ k. two_reopened g.K.Disk c.in-Two.first c.in-Two.second _ _ (c.in-Ok-look.ensures.any_moment k))

pub returns-in-Err-look-clause-any_moment_of_a_fault : goal.returns-in-Err-look-clause-any_moment_of_a_fault
returns-in-Err-look-clause-any_moment_of_a_fault g c = rw c.in-Two.is (λ k. two_reopened g.K.Disk c.in-Two.first c.in-Two.second _ _ (c.in-Err-look.ensures.any_moment_of_a_fault k))
