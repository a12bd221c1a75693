use Rattle.std.proofs.Common.{length}
use Rattle.node_record.proofs.Built.{IsBuilt}
use Rattle.node_record.proofs.recorded.standing_of.Given as goal

-- what was gone over is built
abbrev pub invariant-loop-artifact : goal.invariant-loop-artifact
invariant-loop-artifact g l = IsBuilt l.length l.artifacts l.rest l.standing

abbrev pub decreases-loop-artifact : goal.decreases-loop-artifact
decreases-loop-artifact g l = length l.rest
