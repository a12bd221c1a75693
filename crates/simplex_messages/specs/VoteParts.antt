-- What a vote of any kind belongs to, and what it is in a record.
use Rattle.std.specs.Prelude.{ℕ}
use Rattle.types_core.specs.declared.position.Round.{Round}
use Rattle.simplex_messages.specs.declared.vote.Vote.{Vote}
use Rattle.simplex_messages.specs.declared.vote.Vote.TheVariants as vote
use Rattle.messages_certificates.specs.declared.artifact.Artifact.{Artifact}
use Rattle.messages_certificates.specs.declared.artifact.Artifact.TheVariants as artifact

module _ {S D P G C : Type 0} where
  -- the round that the vote is of
  abbrev pub vote_round : Vote S D P G C → Round
  vote_round (vote.Notarize v) = v.proposal.round
  vote_round (vote.Nullify v) = v.round
  vote_round (vote.Finalize v) = v.proposal.round

  -- the index of the member in whose name it is
  abbrev pub vote_signer : Vote S D P G C → ℕ
  vote_signer (vote.Notarize v) = v.attestation.signer
  vote_signer (vote.Nullify v) = v.attestation.signer
  vote_signer (vote.Finalize v) = v.attestation.signer

  -- a vote of any kind, as an artifact
  abbrev pub vote_artifact : Vote S D P G C → Artifact S D P G C
  vote_artifact (vote.Notarize v) = artifact.Notarize v
  vote_artifact (vote.Nullify v) = artifact.Nullify v
  vote_artifact (vote.Finalize v) = artifact.Finalize v
