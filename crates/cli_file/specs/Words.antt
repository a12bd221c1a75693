-- The words of a command about a file of settings.
use Rattle.std.specs.Prelude.{◌≡◌, ℕ, List, [], ◌∷◌}

-- a command's name and a path
abbrev pub IsCommand : List ℕ → List (List ℕ) → List ℕ → Type 0
IsCommand name words path = words ≡ name ∷ path ∷ []
