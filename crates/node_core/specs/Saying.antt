-- What an artifact of a record says.
use Rattle.messages_certificates.specs.declared.artifact.Artifact.{Artifact}
use Rattle.messages_certificates.specs.declared.artifact.Artifact.TheVariants as artifact
use Rattle.messages_certificates.specs.Artifact.{certificate_artifact}
use Rattle.simplex_messages.specs.VoteParts.{vote_artifact}
use Rattle.node_core.specs.declared.saying.Said.{Said}
use Rattle.node_core.specs.declared.saying.Said.TheVariants as said

-- the artifact that says this
abbrev pub said_artifact : {S D P G C : Type 0} → Said S D P G C → Artifact S D P G C
said_artifact (said.Vote v) = vote_artifact v
said_artifact (said.Certificate c) = certificate_artifact c
said_artifact (said.Verdict r ok) = artifact.Certification r ok
