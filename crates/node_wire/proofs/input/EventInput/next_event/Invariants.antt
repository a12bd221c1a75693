use Rattle.std.proofs.Common.{◌≡◌, ◌<◌, ◌-◌, ◌^◌, length}
use Rattle.std.specs.Io.KnownBytes.{Keeps}
use Rattle.node_wire.specs.Stream.{left_of}
use Rattle.node_wire.proofs.input.EventInput.next_event.Given as goal

-- nothing was taken yet, and no read failed
abbrev pub invariant-loop-event : goal.invariant-loop-event
invariant-loop-event g l =
    (l.self.place ≡ l.fn.self.place) × (l.self.taken ≡ l.fn.self.taken) × (l.self.taken < 2 ^ 32)
    × Keeps (left_of l.fn.self (g.R.Source.remaining l.fn.reader)) (left_of l.self (g.R.Source.remaining l.reader))
    × (g.R.Source.failed l.reader ≡ g.R.Source.failed l.fn.reader)

-- what is held grows, and memory has an end
abbrev pub decreases-loop-event : goal.decreases-loop-event
decreases-loop-event g l = 2 ^ 64 - length l.self.held
