-- Where a key stands in a text.
use Rattle.std.specs.Prelude.{◌≡◌, ℕ, List, length, take, drop}
use Rattle.cli_toml.specs.Refusing.{line_of}

-- the name stands at this place of a text
abbrev pub Stands : List ℕ → ℕ → List ℕ → Type 0
Stands name place text = take (length name) (drop place text) ≡ name

-- the name stands in this line of a text
abbrev pub IsLineOf : List ℕ → ℕ → List ℕ → Type 0
IsLineOf name line text = (place : ℕ) × Stands name place text × (line ≡ line_of place text)
