use Rattle.std.proofs.Common.{length}
use Rattle.std.specs.Prelude.{All, ◌↔◌}
use Rattle.messages_certificates.specs.Artifact.{artifact_within}
use Rattle.node_record.proofs.ledger.are_within.Given as goal

-- all can be read again just if the rest can
abbrev pub invariant-loop-artifact : goal.invariant-loop-artifact
invariant-loop-artifact g l = All (artifact_within (g.S.Certificate.Read.within 65535)) l.artifacts ↔ All (artifact_within (g.S.Certificate.Read.within 65535)) l.rest

abbrev pub decreases-loop-artifact : goal.decreases-loop-artifact
decreases-loop-artifact g l = length l.rest
