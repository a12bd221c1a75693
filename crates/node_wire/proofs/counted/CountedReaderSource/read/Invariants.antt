use Rattle.std.proofs.Common.{◌≡◌}
use Rattle.std.specs.Io.KnownBytes.{Keeps}
use Rattle.node_wire.proofs.counted.CountedReaderSource.read.Given as goal

-- nothing was read yet, and no fault was counted
abbrev pub invariant-loop : goal.invariant-loop
invariant-loop g l = Keeps (g.R.Read.remaining l.initial.self.inner) (g.R.Read.remaining l.self.inner) × (l.self.failures ≡ l.initial.self.failures)
