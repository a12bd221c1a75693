-- What two disks read as, and what a crash leaves of both.
use Rattle.std.specs.Prelude.{◌≡◌, ◌⊎◌, ◌<◌, ℕ, Bool, true, false, List, [], ◌∷◌, ◌++◌, length}
use Rattle.journal_single.specs.Disk.{Call, MayLeave, LeavesOnly}
use Rattle.journal_single.specs.Record.{size, Reads, AreEntries, IsFound, IsForeign, IsFixed}
use Rattle.simplex_journal.specs.Generation.{IsGeneration, HasNone, IsOf, IsNumber, IsPassed}
use Rattle.simplex_journal.specs.Steps.{IsClosed}

-- a disk is of this generation and reads as these bodies
pub record ReadsAs (bytes : List ℕ) (generation : ℕ) (bodies : List (List ℕ)) : Type 0 where
  pub rest : List ℕ
  pub of : IsOf bytes generation rest
  pub reads : Reads rest bodies

-- of two disks this one is read, the first of them or the second, and as these bodies
pub record ReadsBeside (is_first : Bool) (chosen other : List ℕ) (bodies : List (List ℕ)) : Type 0 where
  pub generation : ℕ
  pub reads : ReadsAs chosen generation bodies
  pub passed : IsPassed is_first other generation

-- two disks read as these bodies
abbrev pub ReadsPair : List ℕ → List ℕ → List (List ℕ) → Type 0
ReadsPair first second bodies = ReadsBeside true first second bodies ⊎ ReadsBeside false second first bodies

-- two disks read as these bodies or as those
abbrev pub ReadsEither : List (List ℕ) → List (List ℕ) → List ℕ → List ℕ → Type 0
ReadsEither old new first second = ReadsPair first second old ⊎ ReadsPair first second new

-- A crash at any moment since old leaves of two disks what has P together. Each moment of the one is taken with each
-- moment of the other, so that the order of the calls of different disks need not be known.
abbrev pub BothLeaveOnly : (old new old-2 new-2 : List Call) → (List ℕ → List ℕ → Type 0) → Type 0
BothLeaveOnly old new old-2 new-2 P = LeavesOnly old new (λ image. LeavesOnly old-2 new-2 (P image))

-- two disks read as something reads that a crash might have left of both after these calls
pub record IsPairReopened (calls calls-2 : List Call) (image image-2 : List ℕ) : Type 0 where
  pub before : List ℕ
  pub before-2 : List ℕ
  pub bodies : List (List ℕ)
  pub left : MayLeave calls before
  pub left-2 : MayLeave calls-2 before-2
  pub reads_before : ReadsPair before before-2 bodies
  pub reads : ReadsPair image image-2 bodies

-- this is what stands in front of the record on a disk of this generation
abbrev pub IsHead : List ℕ → ℕ → Type 0
IsHead head generation = ((head ≡ []) × (generation ≡ 0))
    ⊎ ((a : ℕ) × (b : ℕ) × (c : ℕ) × (d : ℕ) × (head ≡ 2 ∷ 255 ∷ 255 ∷ 255 ∷ 255 ∷ a ∷ b ∷ c ∷ d ∷ []) × (generation ≡ size a b c d) × (0 < generation))

-- a disk of this generation reads as these bodies, and the gate behind the last stands at this place
pub record IsFoundOf (generation : ℕ) (bytes : List ℕ) (gate : ℕ) (bodies : List (List ℕ)) : Type 0 where
  pub head : List ℕ
  pub head_is : IsHead head generation
  pub plain : head ≡ [] → HasNone bytes
  pub some : gate < length bytes ⊎ (bytes ≡ [])
  pub found : IsFound head bytes gate bodies

-- a disk of this generation holds entries of these bodies and a closed gate at this place, and a crash leaves nothing else
pub record IsAtRestOf (generation : ℕ) (seen : List ℕ) (calls : List Call) (gate : ℕ) (bodies : List (List ℕ)) : Type 0 where
  pub head : List ℕ
  pub head_is : IsHead head generation
  pub front : List ℕ
  pub entries : AreEntries front bodies
  pub closed : IsClosed (head ++ front) seen calls gate

-- of two disks the one is read and is at rest, and the other is passed and fixed
pub record IsBesideRest (is_first : Bool) (generation : ℕ) (seen : List ℕ) (calls : List Call) (other : List ℕ) (other_calls : List Call) (gate : ℕ) (bodies : List (List ℕ)) : Type 0 where
  pub rest : IsAtRestOf generation seen calls gate bodies
  pub passed : IsPassed is_first other generation
  pub fixed : IsFixed other other_calls

-- two disks are at rest, of which the first is read or the second
abbrev pub IsPairAtRest : Bool → ℕ → List ℕ → List Call → List ℕ → List Call → ℕ → List (List ℕ) → Type 0
IsPairAtRest true generation seen calls seen-2 calls-2 gate bodies = IsBesideRest true generation seen calls seen-2 calls-2 gate bodies
IsPairAtRest false generation seen calls seen-2 calls-2 gate bodies = IsBesideRest false generation seen-2 calls-2 seen calls gate bodies

-- these bytes, behind a first byte, are the head of this generation and the record of these bodies
pub record SpellsGeneration (bytes : List ℕ) (generation : ℕ) (bodies : List (List ℕ)) : Type 0 where
  pub front : List ℕ
  pub whole : IsGeneration (2 ∷ bytes) generation (front ++ 0 ∷ [])
  pub entries : AreEntries front bodies

-- of the record of these bytes, of this generation, the place is the gate of an entry that is no message
pub record IsForeignOf {M : Type 0} (Fits : M → Type 0) (spelling : M → List ℕ) (bytes : List ℕ) (generation place : ℕ) : Type 0 where
  pub head : List ℕ
  pub head_is : IsHead head generation
  pub number : IsNumber bytes generation
  pub foreign : IsForeign head Fits spelling bytes place

-- the same of the one that is read of two disks
abbrev pub IsForeignPair : {M : Type 0} → (M → Type 0) → (M → List ℕ) → (first second : List ℕ) → ℕ → Type 0
IsForeignPair Fits spelling first second place = ((generation : ℕ) × IsPassed true second generation × IsForeignOf Fits spelling first generation place)
    ⊎ ((generation : ℕ) × IsPassed false first generation × IsForeignOf Fits spelling second generation place)
