-- Of two views the earlier.
use Rattle.std.specs.Prelude.{ℕ, nat_lt, Option, None, Some, if◌then◌else◌}

-- where one is there
abbrev pub earlier : Option ℕ → Option ℕ → Option ℕ
earlier None other = other
earlier (Some view) None = Some view
earlier (Some view) (Some other) = if nat_lt other view then Some other else Some view
