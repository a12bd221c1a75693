-- An artifact is of the round of the vote or the certificate that it says.
use Rattle.std.specs.Prelude.{◌≡◌, refl}
use Rattle.messages_certificates.specs.declared.certificate.Certificate.{Certificate}
use Rattle.messages_certificates.specs.declared.certificate.Certificate.TheVariants as certificate
use Rattle.messages_certificates.specs.Artifact.{artifact_round, certificate_artifact}
use Rattle.messages_certificates.specs.Certificate.{certificate_round}
use Rattle.simplex_messages.specs.declared.vote.Vote.{Vote}
use Rattle.simplex_messages.specs.declared.vote.Vote.TheVariants as vote
use Rattle.simplex_messages.specs.VoteParts.{vote_artifact, vote_round}

module _ {S D P G C : Type 0} where
  pub of_vote : (v : Vote S D P G C) → artifact_round (vote_artifact v) ≡ vote_round v
  of_vote (vote.Notarize v) = refl
  of_vote (vote.Nullify v) = refl
  of_vote (vote.Finalize v) = refl

  pub of_certificate : (c : Certificate S D P G C) → artifact_round (certificate_artifact c) ≡ certificate_round c
  of_certificate (certificate.Notarization c) = refl
  of_certificate (certificate.Nullification c) = refl
  of_certificate (certificate.Finalization c) = refl
