-- What a journal holds.
use Rattle.std.specs.Prelude.{◌≡◌, ◌⊎◌, ◌+◌, ◌≤◌, ◌^◌, ℕ, Bool, false, List, [], map}
use Rattle.journal_single.specs.Disk.{Call}
use Rattle.journal_single.specs.Record.{IsAtRest}

-- a journal: its disk, the place of the gate that is closed behind the last entry, and whether an append has failed
pub record Standing (K : Type 0) : Type 0 where
  pub disk : K
  pub gate : ℕ
  pub failed : Bool

-- the journal's record is these messages: the disk holds their entries, and a crash leaves nothing else
abbrev pub IsRecord : {M K : Type 0} → (M → List ℕ) → (K → List ℕ) → (K → List Call) → Standing K → List M → Type 0
IsRecord spelling seen calls journal messages = (journal.failed ≡ false) × IsAtRest [] (seen journal.disk) (calls journal.disk) journal.gate (map spelling messages)

-- a body of so many bytes is too long behind this gate
abbrev pub IsTooLong : ℕ → ℕ → ℕ → Type 0
IsTooLong limit gate size = (limit ≤ size) ⊎ (2 ^ 63 ≤ gate + 5 + size)
