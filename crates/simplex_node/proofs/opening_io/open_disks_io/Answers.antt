use Rattle.std.proofs.Common.{refl, None}
use Rattle.simplex_node.proofs.opening_io.open_disks_io.Goals as goal

pub returns-in-Ok-clause-opened : goal.returns-in-Ok-clause-opened
returns-in-Ok-clause-opened g c =
    let opened = c.in-Ok.ensures.opened in
    (opened.0, record { refused = None; actions = c.in-Ok.actions }, opened.1, refl, record { whole = c.write_out-written.ensures.whole; front = c.write_out-written.ensures.front; faults = c.write_out-written.ensures.faults }, opened.2)
