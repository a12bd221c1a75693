use Rattle.std.proofs.Common.{⊎_elim, subst, sym}
use Rattle.journal_books.specs.declared.disks.Disks.{Disks}
use Rattle.journal_books.specs.Books.{AreLeftAsTheyWere, HasNotFailed, Leave, MayBeRead}
use Rattle.journal_books.specs.BooksLaws.{failed_then, not_failed_then}
use Rattle.node_record.proofs.ledger.Ledger.open.Goals as goal

pub returns-in-Ok-keep-clause-opened : goal.returns-in-Ok-keep-clause-opened
returns-in-Ok-keep-clause-opened g c = record {
  found = c.in-Ok.artifacts.items;
  are_found = record { readable = c.in-Ok.ensures.readable; reads = c.in-Ok.ensures.reading; left = c.in-Ok.ensures.left };
  lawful = c.in-Ok-checked.ensures.lawful;
  keeps = record {
    holds = c.in-Ok-checked.ensures.holds;
    runs = c.in-Ok-keep.ensures.fresh;
    journal = λ keeps. c.in-Ok-keep.ensures.record c.in-Ok.artifacts.items keeps (c.in-Ok.ensures.found keeps);
  };
}

pub returns-in-Ok-keep-clause-any_moment : goal.returns-in-Ok-keep-clause-any_moment
returns-in-Ok-keep-clause-any_moment g c = λ keeps.
    let looked = c.in-Ok.ensures in
    c.in-Ok-keep.ensures.any_moment c.in-Ok.artifacts.items c.args.disks keeps (looked.found keeps) (looked.before keeps) (looked.left keeps)

pub returns-in-Err-keep-clause-any_moment_of_a_fault : goal.returns-in-Err-keep-clause-any_moment_of_a_fault
returns-in-Err-keep-clause-any_moment_of_a_fault g c = λ keeps.
    let looked = c.in-Ok.ensures in
    c.in-Err-keep.ensures.any_moment_of_a_fault c.in-Ok.artifacts.items c.args.disks keeps (looked.found keeps) (looked.before keeps) (looked.left keeps)

-- a record that the rules refuse is left as it was
pub returns-in-Err-checked-clause-any_moment_of_a_fault : goal.returns-in-Err-checked-clause-any_moment_of_a_fault
returns-in-Err-checked-clause-any_moment_of_a_fault g c = λ keeps.
    subst (λ (on : Disks g.row.K.Denot). Leave g.K.Disk c.args.disks on (MayBeRead g.K.Disk c.args.disks)) (sym c.close.ensures) (c.in-Ok.ensures.any_moment keeps)

-- an artifact that the rules refuse is none that can't be read
pub returns-in-Err-checked-clause-foreign : goal.returns-in-Err-checked-clause-foreign
returns-in-Err-checked-clause-foreign g c = λ place is keeps. absurd (⊎_elim (λ memory. cc (is, memory)) (λ refused. cc (is, refused.1)) c.in-Err-checked.ensures.faults)

pub returns-in-Err-checked-clause-contradiction : goal.returns-in-Err-checked-clause-contradiction
returns-in-Err-checked-clause-contradiction g c = λ position is. (
  c.in-Ok.artifacts.items,
  record { readable = c.in-Ok.ensures.readable; reads = c.in-Ok.ensures.reading; left = c.in-Ok.ensures.left },
  c.in-Err-checked.ensures.refused position is,
)

pub returns-in-Err-checked-clause-untouched : goal.returns-in-Err-checked-clause-untouched
returns-in-Err-checked-clause-untouched g c = λ other keeps.
    subst (λ (on : Disks g.row.K.Denot). AreLeftAsTheyWere g.K.Disk c.args.disks on) (sym c.close.ensures) (c.in-Ok.ensures.untouched keeps)

-- how often a disk has failed
pub returns-in-Err-checked-clause-no_device : goal.returns-in-Err-checked-clause-no_device
returns-in-Err-checked-clause-no_device g c = λ other.
    subst (λ (on : Disks g.row.K.Denot). HasNotFailed g.K.Disk c.args.disks on) (sym c.close.ensures) c.in-Ok.ensures.no_fault

pub returns-in-Ok-keep-clause-no_fault : goal.returns-in-Ok-keep-clause-no_fault
returns-in-Ok-keep-clause-no_fault g c = not_failed_then g.K.Disk _ _ _ c.in-Ok.ensures.no_fault c.in-Ok-keep.ensures.no_fault

pub returns-in-Err-keep-clause-device : goal.returns-in-Err-keep-clause-device
returns-in-Err-keep-clause-device g c = λ is. failed_then g.K.Disk _ _ _ c.in-Ok.ensures.no_fault c.in-Err-keep.ensures.device
