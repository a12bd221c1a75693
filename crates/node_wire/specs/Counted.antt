-- What is told of a reader and of a writer of the standard library whose faults are counted.
use Rattle.std.specs.Prelude.{ℕ, Bool}

-- a reader, and how often reading it has failed
pub record ReaderTold (R : Type 0) : Type 0 where
  pub inner : R
  pub failures : ℕ

-- a writer, how often writing to it or flushing it has failed, and whether nothing was written since the last flush that succeeded
pub record WriterTold (W : Type 0) : Type 0 where
  pub inner : W
  pub failures : ℕ
  pub is_flushed : Bool
