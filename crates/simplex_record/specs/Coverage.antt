-- Views in spans, each given by its first view and its last.
use Rattle.std.specs.Prelude.{◌≡◌, ◌⊎◌, ◌<◌, ◌≤◌, ◌+◌, ◌^◌, ℕ, List, Contains}

-- the view lies in the span
abbrev pub LiesIn : ℕ × ℕ → ℕ → Type 0
LiesIn span view = (span.0 ≤ view) × (view ≤ span.1)

-- the view lies in one of the spans
abbrev pub IsCovered : List (ℕ × ℕ) → ℕ → Type 0
IsCovered spans view = (span : ℕ × ℕ) × Contains spans span × LiesIn span view

-- each view after the parent and before the view is covered
abbrev pub AreCoveredBetween : List (ℕ × ℕ) → ℕ → ℕ → Type 0
AreCoveredBetween spans parent view = (between : ℕ) → parent < between → between < view → IsCovered spans between

-- the first view after the parent and before the view that isn't covered
pub record IsFirstUncovered (spans : List (ℕ × ℕ)) (parent view first : ℕ) : Type 0 where
  pub after : parent < first
  pub before : first < view
  pub bare : IsCovered spans first → ⊥
  pub least : AreCoveredBetween spans parent first

-- no span is empty or reaches beyond the numbers of 64 bits, and between two of them lies a view of neither
pub record AreApart (spans : List (ℕ × ℕ)) : Type 0 where
  pub ascends : (s : ℕ × ℕ) → Contains spans s → s.0 ≤ s.1
  pub fits : (s : ℕ × ℕ) → Contains spans s → s.1 < 2 ^ 64
  pub apart : (s t : ℕ × ℕ) → Contains spans s → Contains spans t → (s ≡ t) ⊎ (s.1 + 1 < t.0) ⊎ (t.1 + 1 < s.0)
