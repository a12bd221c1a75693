use Rattle.std.proofs.Common.{◌≡◌}
use Rattle.std.specs.Io.KnownBytes.{Keeps}
use Rattle.node_wire.proofs.counted.CountedWriterSink.write.Given as goal

-- nothing was written yet, and no fault was counted
abbrev pub invariant-loop : goal.invariant-loop
invariant-loop g l = Keeps (g.W.Write.contents l.initial.self.inner) (g.W.Write.contents l.self.inner) × (l.self.failures ≡ l.initial.self.failures)
