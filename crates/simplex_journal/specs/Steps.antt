-- What the steps of a record leave of a disk, by its bytes.
use Rattle.std.specs.Prelude.{◌≡◌, ◌⊎◌, ◌<◌, ◌≤◌, ℕ, List, [], ◌∷◌, ◌++◌, length, take}
use Rattle.journal_single.specs.Disk.{Call}
use Rattle.journal_single.specs.Record.{IsFixed}

-- a disk holds these bytes and a closed gate behind them, at this place, and a crash leaves nothing else
pub record IsClosed (base seen : List ℕ) (calls : List Call) (gate : ℕ) : Type 0 where
  pub gate_is : gate ≡ length base
  pub seen_is : seen ≡ base ++ 0 ∷ []
  pub fixed : IsFixed seen calls

-- while the gate of an empty disk is written, at most one byte is there
abbrev pub IsBeingBegun : List ℕ → Type 0
IsBeingBegun image = length image ≤ 1

-- while a disk is cleared, a front of what it held is there, or at most one byte
abbrev pub IsBeingCleared : (old image : List ℕ) → Type 0
IsBeingCleared old image = ((n : ℕ) × (image ≡ take n old)) ⊎ IsBeingBegun image

-- while what stands behind these bytes is cut off but for a gate, and that gate is closed: a front of it with the gate
-- at least, or any byte in the gate's place and nothing behind it
abbrev pub IsBeingClosed : (base end image : List ℕ) → Type 0
IsBeingClosed base end image = ((n : ℕ) × (0 < length (take n end)) × (image ≡ base ++ take n end)) ⊎ ((byte : ℕ) × (image ≡ base ++ byte ∷ []))

-- while bytes are put behind a closed gate and marked in its place: the gate is closed, whatever stands behind it, or
-- any byte is in its place and the bytes are whole
abbrev pub IsBeingMarked : (base bytes image : List ℕ) → Type 0
IsBeingMarked base bytes image = ((behind : List ℕ) × (image ≡ base ++ 0 ∷ behind)) ⊎ ((byte : ℕ) × (image ≡ base ++ byte ∷ bytes))
