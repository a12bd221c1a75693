-- What is claimed of a disk whose bytes a host keeps.
use Rattle.std.specs.Prelude.{◌≡◌, ℕ, List, [], ◌∷◌, Bool, false}
use Rattle.journal_single.specs.Disk.{Call, MayLeave, Synced, counted}
use Rattle.cli_disk.specs.declared.requests.File.{File}

-- which file it stands for; what that holds once the host did all that it was asked, and what it was asked, the newest first; whether it was
-- asked to change it; how often the disk has failed; and whether a change could not be asked, so that every call fails
pub record HostedState : Type 0 where
  pub file : File
  pub bytes : List ℕ
  pub calls : List Call
  pub changed : Bool
  pub failures : ℕ
  pub broken : Bool
  pub is_left : MayLeave calls bytes

-- a disk over the bytes of this file, all of them fixed, of which nothing was asked
pub record IsFresh (file : File) (bytes : List ℕ) (disk : HostedState) : Type 0 where
  pub of_file : disk.file ≡ file
  pub holds : disk.bytes ≡ bytes
  pub fixed : disk.calls ≡ Synced bytes ∷ []
  pub unchanged : disk.changed ≡ false
  pub failures : disk.failures ≡ 0
  pub whole : disk.broken ≡ false

-- nothing more was asked of it by a call that answered so
pub record IsAsBefore (answered : Bool) (old new : HostedState) : Type 0 where
  pub file : new.file ≡ old.file
  pub bytes : new.bytes ≡ old.bytes
  pub calls : new.calls ≡ old.calls
  pub changed : new.changed ≡ old.changed
  pub failures : new.failures ≡ counted answered old.failures
