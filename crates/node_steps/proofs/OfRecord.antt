-- Which faults of an opening are of what stands on the disks, and how many disks are given back.
use Rattle.std.proofs.Common.{◌≡◌, ◌≢◌, ◌⊎◌, ⊎_elim, refl, subst}
use Rattle.std.specs.Prelude.{Some}
use Rattle.journal_single.specs.declared.disk.Disk as disk
use Rattle.journal_books.specs.declared.disks.Disks.{Disks}
use Rattle.journal_books.specs.Books.{HasFailed, HasNotFailed, are_two}
use Rattle.journal_books.specs.BooksLaws.{same_kind, same_kind_failed}
use Rattle.simplex_member.specs.declared.fault.OpenFault.{OpenFault}
use Rattle.simplex_member.specs.declared.fault.OpenFault.TheVariants as open_fault
use Rattle.node_steps.specs.Opening.{IsOfRecord, early}

-- none that is told by the arguments alone
pub never_early : (why : OpenFault) → early why ≡ Some why → IsOfRecord why → ⊥
never_early (open_fault.Foreign place) is told = absurd cc
never_early (open_fault.Contradiction position) is told = absurd cc
never_early open_fault.NoKey is told = told
never_early (open_fault.Config x) is told = told
never_early open_fault.MomentTooLate is told = told
never_early open_fault.TooManyOptimistic is told = told
never_early open_fault.Device is told = told
never_early open_fault.Memory is told = told

-- nor the disk's own, nor want of memory
pub never_device : (why : OpenFault) → IsOfRecord why → why ≢ open_fault.Device
never_device why told is = subst IsOfRecord is told

pub never_memory : (why : OpenFault) → IsOfRecord why → why ≢ open_fault.Memory
never_memory why told is = subst IsOfRecord is told

pub never_late : (why : OpenFault) → (why ≡ open_fault.Memory) ⊎ (why ≡ open_fault.Device) → IsOfRecord why → ⊥
never_late why is told = ⊎_elim (λ memory. subst IsOfRecord memory told) (λ device. subst IsOfRecord device told) is

-- as many disks are given back as were given
pub as_many_back : {K : Type 0} (k : disk.Ghosts K) (why : OpenFault) (old new : Disks K) → (why ≡ open_fault.Device → HasFailed k old new) → (why ≢ open_fault.Device → HasNotFailed k old new) → are_two new ≡ are_two old
as_many_back k open_fault.Device old new device other = same_kind_failed k old new (device refl)
as_many_back k (open_fault.Foreign place) old new device other = same_kind k old new (other (λ is. absurd cc))
as_many_back k (open_fault.Contradiction position) old new device other = same_kind k old new (other (λ is. absurd cc))
as_many_back k open_fault.NoKey old new device other = same_kind k old new (other (λ is. absurd cc))
as_many_back k (open_fault.Config x) old new device other = same_kind k old new (other (λ is. absurd cc))
as_many_back k open_fault.MomentTooLate old new device other = same_kind k old new (other (λ is. absurd cc))
as_many_back k open_fault.TooManyOptimistic old new device other = same_kind k old new (other (λ is. absurd cc))
as_many_back k open_fault.Memory old new device other = same_kind k old new (other (λ is. absurd cc))
