-- What calls answer.
use Rattle.std.specs.Prelude.{ℕ}
use Rattle.world_page.specs.declared.status.Status.{Status}
use Rattle.world_page.specs.declared.status.Status.TheVariants as status

-- the number of a status
abbrev pub status_number : Status → ℕ
status_number status.Done = 0
status_number status.Memory = 1
status_number status.Argument = 2
status_number status.Room = 3
status_number status.Device = 4
status_number status.Setup = 5
