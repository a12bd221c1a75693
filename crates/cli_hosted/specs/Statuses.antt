-- What calls answer a host.
use Rattle.std.specs.Prelude.{ℕ}
use Rattle.cli_hosted.specs.declared.status.Status.{Status}
use Rattle.cli_hosted.specs.declared.status.Status.TheVariants as status

-- the number of a status
abbrev pub status_number : Status → ℕ
status_number status.Done = 0
status_number status.Memory = 1
status_number status.Argument = 2
status_number status.Room = 3
status_number status.End = 4
status_number status.Invalid = 5
status_number status.TooLong = 6
status_number status.Refused = 7
status_number status.Foreign = 8
status_number status.Device = 9
status_number status.Failed = 10
status_number status.Torn = 11
status_number status.NoRecord = 12
status_number status.Settings = 13
status_number status.Version = 14
status_number status.OtherEpoch = 15
status_number status.NotCertifying = 16
status_number status.NotFinal = 17
