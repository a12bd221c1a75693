-- The node that C holds.
use Rattle.std.specs.Prelude.{Option}
use Rattle.cli_hosted.specs.declared.session.Session.{Session}
use Rattle.cli_hosted.specs.declared.handle.Handle.{Handle}

-- the node that C holds, if one is open
abbrev pub held_by : Handle → Option Session
held_by handle = handle.place.held
