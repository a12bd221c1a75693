-- What a caller is told.
use Rattle.std.specs.Prelude.{◌≡◌, ◌<◌, ◌≤◌, ◌++◌, ℕ, List, [], Option, None, Some, drop, length}

-- two numbers name a third one, or none
abbrev pub Names : ℕ → ℕ → Option ℕ → Type 0
Names named place None = named ≡ 0
Names named place (Some p) = (named ≡ 1) × (place ≡ p)

module _ {T : Type 0} where
  -- this stands at the front of the room, and behind it what stood there
  pub record IsPut (told room filled : List T) : Type 0 where
    pub fits : length told ≤ length room
    pub filled_is : filled ≡ told ++ drop (length told) room

  -- all that waited stands at the front of the room, in its order, and none of it waits on
  pub record AreTaken (waiting left room filled : List T) : Type 0 where
    pub put : IsPut waiting room filled
    pub none_left : left ≡ []

  -- it doesn't fit, and waits on
  pub record WaitOn (waiting left room filled : List T) : Type 0 where
    pub no_room : length room < length waiting
    pub unwritten : filled ≡ room
    pub all_left : left ≡ waiting
