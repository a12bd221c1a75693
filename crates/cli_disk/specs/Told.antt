-- What a log tells of a disk.
use Rattle.std.specs.Prelude.{◌+◌, ◌-◌, ℕ, List, [], ◌∷◌, ◌++◌, length, take, drop}
use Rattle.journal_single.specs.Disk.{Call}
use Rattle.journal_single.specs.Disk as calls
use Rattle.cli_disk.specs.declared.log.Log.{Log}
use Rattle.cli_disk.specs.declared.log.Log.TheVariants as entry

-- what a read gives, and what was asked of the disk, the newest first
pub record Contents : Type 0 where
  pub bytes : List ℕ
  pub calls : List Call

-- a disk that began with these bytes, all of them fixed
abbrev pub begun : List ℕ → Contents
begun bytes = record { bytes = bytes; calls = calls.Synced bytes ∷ [] }

-- what these bytes make of it, written from a place on
abbrev pub written : Contents → ℕ → List ℕ → Contents
written was at bytes = record { bytes = take at was.bytes ++ bytes ++ drop (at + length bytes) was.bytes; calls = calls.Wrote at (length bytes) ∷ was.calls }

-- what a cut to a length makes of it
abbrev pub cut_to : Contents → ℕ → Contents
cut_to was n = record { bytes = take n was.bytes; calls = calls.CutTo n ∷ was.calls }

-- what a sync makes of it
abbrev pub synced : Contents → Contents
synced was = record { bytes = was.bytes; calls = calls.Synced was.bytes ∷ was.calls }

-- so many bytes at the end
abbrev pub last : ℕ → List ℕ → List ℕ
last n bytes = drop (length bytes - n) bytes

-- what all that was asked makes of it
abbrev pub told : Log → Contents
told (entry.Began bytes) = begun bytes.value.items
told (entry.Wrote' p before at size asked) = written (told before) at (last size asked.value.items)
told (entry.CutTo' p before n) = cut_to (told before) n
told (entry.Synced' p before) = synced (told before)
