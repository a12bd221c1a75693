-- The attestations of a message: who signs, what stands there for it, and where.
use Rattle.std.specs.Prelude.{ℕ, ◌+◌, List, [], ◌∷◌, ◌++◌, Result, Ok, Err, length}
use Rattle.types_codec.specs.declared.codec.CodecError.{CodecError}
use Rattle.types_codec.specs.Varint.{varint}
use Rattle.types_core.specs.declared.attestation.Attestation.{Attestation}
use Rattle.types_core.specs.Proposal.{proposal_spelling}
use Rattle.types_core.specs.Round.{round_spelling}
use Rattle.simplex_types.specs.Plain.{Committee}
use Rattle.messages_certificates.specs.declared.artifact.Artifact.{Artifact}
use Rattle.messages_certificates.specs.declared.artifact.Artifact.TheVariants as artifact
use Rattle.messages_certificates.specs.declared.certificate.Certificate.{Certificate}
use Rattle.messages_certificates.specs.declared.certificate.Certificate.TheVariants as certificate
use Rattle.messages_certificates.specs.declared.nullification.Nullification.{Nullification}
use Rattle.messages_certificates.specs.declared.nullify.Nullify.{Nullify}
use Rattle.messages_certificates.specs.declared.proposal_certificate.ProposalCertificate.{ProposalCertificate}
use Rattle.messages_certificates.specs.declared.proposal_vote.ProposalVote.{ProposalVote}
use Rattle.messages_certificates.specs.Nullify.{nullify_spelling}
use Rattle.messages_certificates.specs.ProposalVote.{vote_spelling}
use Rattle.simplex_messages.specs.declared.activity.Activity.{Activity}
use Rattle.simplex_messages.specs.declared.activity.Activity.TheVariants as activity
use Rattle.simplex_messages.specs.declared.vote.Vote.{Vote}
use Rattle.simplex_messages.specs.declared.vote.Vote.TheVariants as vote
use Rattle.cli_audit.specs.Running.{report_at}
use Rattle.cli_tool.specs.declared.decoding.Kind.{Kind}
use Rattle.cli_tool.specs.declared.decoding.Kind.TheVariants as kind
use Rattle.cli_tool.specs.Decoding.{Listed, certificate_at, plain_artifact_at, vote_at}
use Rattle.cli_attestations.specs.declared.listing.Mark.{Mark}

-- attestations that stand one behind another from a place on: each is its signer's index, and then the signature
abbrev pub marks_from : ℕ → List (Attestation (List ℕ)) → List Mark
marks_from start [] = []
marks_from start (a ∷ more) =
    record { place = start + length (varint a.signer); signer = a.signer; hash = a.signature } ∷ marks_from (start + length (varint a.signer) + 32) more

-- the place of a list behind this: a count stands before it
abbrev pub list_from : ℕ → Listed → ℕ
list_from before listed = before + length (varint (length listed))

-- votes and certificates of the plain scheme, behind so many bytes or behind a tag
abbrev pub proposal_vote_marks : {K : Type 0} → ℕ → ProposalVote K Committee (List ℕ) ℕ (List ℕ) Listed → List Mark
proposal_vote_marks before v = marks_from (before + length (proposal_spelling (λ d. d) v.proposal)) (v.attestation ∷ [])

abbrev pub nullify_marks : ℕ → Nullify Committee (List ℕ) ℕ (List ℕ) Listed → List Mark
nullify_marks before v = marks_from (before + length (round_spelling v.round)) (v.attestation ∷ [])

abbrev pub proposal_certificate_marks : {K : Type 0} → ProposalCertificate K Committee (List ℕ) ℕ (List ℕ) Listed → List Mark
proposal_certificate_marks c = marks_from (list_from (1 + length (proposal_spelling (λ d. d) c.proposal)) c.certificate) c.certificate

abbrev pub nullification_marks : Nullification Committee (List ℕ) ℕ (List ℕ) Listed → List Mark
nullification_marks c = marks_from (list_from (1 + length (round_spelling c.round)) c.certificate) c.certificate

-- both votes of evidence, the second behind the first
abbrev pub two_marks : {K : Type 0} → ProposalVote K Committee (List ℕ) ℕ (List ℕ) Listed → ProposalVote K Committee (List ℕ) ℕ (List ℕ) Listed → List Mark
two_marks v w = proposal_vote_marks 1 v ++ proposal_vote_marks (1 + length (vote_spelling (λ d. d) (λ s. s) v)) w

abbrev pub beside_marks : {K : Type 0} → Nullify Committee (List ℕ) ℕ (List ℕ) Listed → ProposalVote K Committee (List ℕ) ℕ (List ℕ) Listed → List Mark
beside_marks v w = nullify_marks 1 v ++ proposal_vote_marks (1 + length (nullify_spelling (λ s. s) v)) w

-- a message of each kind
abbrev pub vote_marks : Vote Committee (List ℕ) ℕ (List ℕ) Listed → List Mark
vote_marks (vote.Notarize v) = proposal_vote_marks 1 v
vote_marks (vote.Nullify v) = nullify_marks 1 v
vote_marks (vote.Finalize v) = proposal_vote_marks 1 v

abbrev pub certificate_marks : Certificate Committee (List ℕ) ℕ (List ℕ) Listed → List Mark
certificate_marks (certificate.Notarization c) = proposal_certificate_marks c
certificate_marks (certificate.Nullification c) = nullification_marks c
certificate_marks (certificate.Finalization c) = proposal_certificate_marks c

abbrev pub artifact_marks : Artifact Committee (List ℕ) ℕ (List ℕ) Listed → List Mark
artifact_marks (artifact.Notarize v) = proposal_vote_marks 1 v
artifact_marks (artifact.Notarization c) = proposal_certificate_marks c
artifact_marks (artifact.Certification round ok) = []
artifact_marks (artifact.Nullify v) = nullify_marks 1 v
artifact_marks (artifact.Nullification c) = nullification_marks c
artifact_marks (artifact.Finalize v) = proposal_vote_marks 1 v
artifact_marks (artifact.Finalization c) = proposal_certificate_marks c

abbrev pub activity_marks : Activity Committee (List ℕ) ℕ (List ℕ) Listed → List Mark
activity_marks (activity.Notarize v) = proposal_vote_marks 1 v
activity_marks (activity.Notarization c) = proposal_certificate_marks c
activity_marks (activity.Certification c) = proposal_certificate_marks c
activity_marks (activity.Nullify v) = nullify_marks 1 v
activity_marks (activity.Nullification c) = nullification_marks c
activity_marks (activity.Finalize v) = proposal_vote_marks 1 v
activity_marks (activity.Finalization c) = proposal_certificate_marks c
activity_marks (activity.ConflictingNotarize x) = two_marks x.0 x.1
activity_marks (activity.ConflictingFinalize x) = two_marks x.0 x.1
activity_marks (activity.NullifyFinalize x) = beside_marks x.0 x.1

-- the same of what bytes are read as, or the refusal
abbrev pub marked : {A : Type 0} → (A → List Mark) → Result (A × List ℕ) CodecError → Result (List Mark) CodecError
marked marks (Ok found) = Ok (marks found.0)
marked marks (Err trouble) = Err trouble

abbrev pub marks_in : Kind → ℕ → List ℕ → Result (List Mark) CodecError
marks_in kind.Vote members bytes = marked vote_marks (vote_at bytes)
marks_in kind.Certificate members bytes = marked certificate_marks (certificate_at members bytes)
marks_in kind.Artifact members bytes = marked artifact_marks (plain_artifact_at members bytes)
marks_in kind.Report members bytes = marked activity_marks (report_at members bytes)
