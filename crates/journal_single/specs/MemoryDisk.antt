-- What a disk in memory has kept of its calls, and which of the calls to come are to fail.
use Rattle.std.specs.Prelude.{◌≡◌, ◌⊎◌, ◌+◌, ◌-◌, ◌≤◌, ℕ, zero, suc, Option, None, Some, IsSomeAnd, List, [], ◌∷◌, ◌++◌, length, take, drop, fold}
use Rattle.journal_single.specs.Disk.{Call, MayLeave}
use Rattle.journal_single.specs.Disk as calls
use Rattle.journal_single.specs.declared.memory_disk.Made.{Made}
use Rattle.journal_single.specs.declared.memory_disk.Made.TheVariants as made
use Rattle.journal_single.specs.declared.memory_disk.Plan.{Plan}

-- what a read gives, and what was asked of the disk, the newest first
pub record Contents : Type 0 where
  pub bytes : List ℕ
  pub calls : List Call

-- a disk of which nothing was asked
abbrev pub empty : Contents
empty = record { bytes = []; calls = [] }

-- what these bytes make of a disk, written from a place on
abbrev pub written : Contents → ℕ → List ℕ → Contents
written was at bytes = record { bytes = take at was.bytes ++ bytes ++ drop (at + length bytes) was.bytes; calls = calls.Wrote at (length bytes) ∷ was.calls }

-- what one more call that was kept makes of a disk
abbrev pub made_by : Contents → Made → Contents
made_by was (made.Began bytes) = record { bytes = bytes.items; calls = calls.Synced bytes.items ∷ was.calls }
made_by was (made.Wrote at bytes) = written was at bytes.items
made_by was (made.CutTo length) = record { bytes = take length was.bytes; calls = calls.CutTo length ∷ was.calls }
made_by was made.Synced = record { bytes = was.bytes; calls = calls.Synced was.bytes ∷ was.calls }

-- what the calls that were kept tell, replayed from the oldest on
abbrev pub told : List Made → Contents
told kept = fold made_by empty kept

-- what was asked of the disk, as they tell it
abbrev pub calls_told : List Made → List Call
calls_told kept = (told kept).calls

-- the call behind so many others is to fail
abbrev pub Fails : Plan → ℕ → Type 0
Fails plan others = IsSomeAnd plan.fuse (λ let_through. let_through ≤ others) ⊎ (plan.fail_at ≡ Some others)

-- how many calls a fuse lets through once the next call was made
abbrev pub burnt : Option ℕ → Option ℕ
burnt None = None
burnt (Some let_through) = Some (let_through - 1)

-- behind how many others the one call fails once the next call was made, if it is still to come
abbrev pub nearer : Option ℕ → Option ℕ
nearer None = None
nearer (Some zero) = None
nearer (Some (suc others)) = Some others

-- what is planned once the next call was made
abbrev pub one_call_on : Plan → Plan
one_call_on plan = record { fuse = burnt plan.fuse; fail_at = nearer plan.fail_at }

-- a disk in memory: what it holds, what was asked of it, how often it has failed, and which calls are to fail
pub record DiskState : Type 0 where
  pub bytes : List ℕ
  pub calls : List Call
  pub failures : ℕ
  pub plan : Plan
  pub is_left : MayLeave calls bytes
