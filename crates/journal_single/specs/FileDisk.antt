-- What is claimed of a disk in a file.
use Rattle.std.specs.Prelude.{ℕ, Bool}

-- a disk in a file: how often it has failed, and whether a write, a cut or a sync of it has, so that every call fails
pub record FileState : Type 0 where
  pub failures : ℕ
  pub broken : Bool
