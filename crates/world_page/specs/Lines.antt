-- What becomes of lines that wait.
use Rattle.std.specs.Prelude.{◌≡◌, ◌++◌, ℕ, List}

-- what waited waits on, with more behind it or none
abbrev pub GoesOn : List ℕ → List ℕ → Type 0
GoesOn old new = (more : List ℕ) × (new ≡ old ++ more)
