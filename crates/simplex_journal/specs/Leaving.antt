-- What a crash leaves of two disks while one of them is written.
use Rattle.std.specs.Prelude.{◌≡◌, ◌⊎◌, ℕ, Bool, true, false, List}
use Rattle.journal_single.specs.Disk.{Call, MayLeave, LeavesOnly}
use Rattle.simplex_journal.specs.Reading.{ReadsAs, ReadsPair}

-- after a crash two disks may read as these bodies
abbrev pub MayBeReadOf : (calls calls-2 : List Call) → List (List ℕ) → Type 0
MayBeReadOf calls calls-2 bodies = (one : List ℕ) × (two : List ℕ) × MayLeave calls one × MayLeave calls-2 two × ReadsPair one two bodies

-- a disk is of this generation and reads as bodies that have P
abbrev pub ReadsAsOne : ℕ → (List (List ℕ) → Type 0) → List ℕ → Type 0
ReadsAsOne generation P image = (bodies : List (List ℕ)) × ReadsAs image generation bodies × P bodies

-- a crash at any moment between leaves the disk that is read, of two, so that it is of this generation and reads as
-- bodies that have P; of the other nothing was asked
abbrev pub LeavesReading : Bool → ℕ → (old new old-2 new-2 : List Call) → (List (List ℕ) → Type 0) → Type 0
LeavesReading true generation old new old-2 new-2 P = LeavesOnly old new (ReadsAsOne generation P) × (new-2 ≡ old-2)
LeavesReading false generation old new old-2 new-2 P = LeavesOnly old-2 new-2 (ReadsAsOne generation P) × (new ≡ old)

-- a crash at any moment since before an opening leaves the disk that is read as one before it might have left it, or so
-- that it is of this generation and reads as bodies that have P; it read as something of this generation when it was
-- opened. The other is left as a crash before might have left it
pub record LeavesOpened (generation : ℕ) (old new other new-other : List Call) (P : List (List ℕ) → Type 0) : Type 0 where
  pub seen : List ℕ
  pub bodies : List (List ℕ)
  pub here : MayLeave old seen
  pub reads : ReadsAs seen generation bodies
  pub leaves : LeavesOnly old new (λ image. MayLeave old image ⊎ ReadsAsOne generation P image)
  pub others : LeavesOnly other new-other (MayLeave other)

-- the same of two disks, of which the first is read or the second
abbrev pub LeavesSince : Bool → ℕ → (old new old-2 new-2 : List Call) → (List (List ℕ) → Type 0) → Type 0
LeavesSince true generation old new old-2 new-2 P = LeavesOpened generation old new old-2 new-2 P
LeavesSince false generation old new old-2 new-2 P = LeavesOpened generation old-2 new-2 old new P
