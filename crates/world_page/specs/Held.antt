-- The session that a caller holds.
use Rattle.std.specs.Prelude.{ℕ, List, Option}
use Rattle.world_page.specs.declared.handle.Handle.{Handle}

-- the lines that wait in the session, if one is open
abbrev pub held_by : Handle → Option (List ℕ)
held_by handle = handle.place.held
