-- What is found of a disk before anything is written or cut.
use Rattle.std.specs.Prelude.{◌≡◌, ◌⊎◌, ℕ, List, [], ◌∷◌, length, map}
use Rattle.journal_single.specs.Disk.{Call, Synced}
use Rattle.journal_single.specs.Record.{IsFixed, IsFound}

-- a disk that was looked at: how many bytes it holds, and the place of the gate behind its record's last entry
pub record Looked (K : Type 0) : Type 0 where
  pub disk : K
  pub size : ℕ
  pub gate : ℕ

-- these messages were found on the disk, with the last gate at its place: it reads as them, and a crash leaves nothing else
pub record HasFound {M K : Type 0} (spelling : M → List ℕ) (seen : K → List ℕ) (calls : K → List Call)
    (looked : Looked K) (messages : List M) : Type 0 where
  pub found : IsFound [] (seen looked.disk) looked.gate (map spelling messages)
  pub size_is : looked.size ≡ length (seen looked.disk)
  pub fixed : IsFixed (seen looked.disk) (calls looked.disk)

-- a disk is left as it was, and fixed: no more was asked of it than a sync
pub record IsLeftAsItWas {K : Type 0} (seen : K → List ℕ) (calls : K → List Call) (before after : K) : Type 0 where
  pub same : seen after ≡ seen before
  pub asked : calls after ≡ Synced (seen before) ∷ calls before

-- no more was asked of a disk than a sync, which may have failed
abbrev pub IsAtMostSynced : List ℕ → List Call → List Call → Type 0
IsAtMostSynced seen old new = (new ≡ old) ⊎ (new ≡ Synced seen ∷ old)
