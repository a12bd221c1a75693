-- How many bytes a message takes, by its kind.
use Rattle.std.specs.Prelude.{ℕ, ◌-◌, List, Result, Ok, Err, length}
use Rattle.types_codec.specs.declared.codec.CodecError.{CodecError}
use Rattle.types_codec.specs.Codec.{bytes_at}
use Rattle.types_core.specs.declared.attestation.Attestation.{Attestation}
use Rattle.simplex_types.specs.AttestationList.{list_at}
use Rattle.simplex_types.specs.Plain.{Committee}
use Rattle.messages_certificates.specs.declared.artifact.Artifact.{Artifact}
use Rattle.messages_certificates.specs.declared.certificate.Certificate.{Certificate}
use Rattle.messages_certificates.specs.Artifact.{artifact_at}
use Rattle.messages_certificates.specs.Certificate.{any_certificate_at}
use Rattle.simplex_messages.specs.declared.vote.Vote.{Vote}
use Rattle.simplex_messages.specs.Vote.{any_vote_at}
use Rattle.cli_audit.specs.Running.{report_at}
use Rattle.cli_tool.specs.declared.decoding.Kind.{Kind}
use Rattle.cli_tool.specs.declared.decoding.Kind.TheVariants as kind

-- how messages of the plain scheme are read, lists below a bound
abbrev pub Listed : Type 0
Listed = List (Attestation (List ℕ))

abbrev pub vote_at : List ℕ → Result (Vote Committee (List ℕ) ℕ (List ℕ) Listed × List ℕ) CodecError
vote_at = any_vote_at (bytes_at 32) (bytes_at 32)

abbrev pub certificate_at : ℕ → List ℕ → Result (Certificate Committee (List ℕ) ℕ (List ℕ) Listed × List ℕ) CodecError
certificate_at members = any_certificate_at (bytes_at 32) (list_at (bytes_at 32) members)

abbrev pub plain_artifact_at : ℕ → List ℕ → Result (Artifact Committee (List ℕ) ℕ (List ℕ) Listed × List ℕ) CodecError
plain_artifact_at members = artifact_at (bytes_at 32) (bytes_at 32) (list_at (bytes_at 32) members)

-- the size of what reading these bytes gives, or its refusal
abbrev pub size_of : {A : Type 0} → List ℕ → Result (A × List ℕ) CodecError → Result ℕ CodecError
size_of bytes (Ok found) = Ok (length bytes - length found.1)
size_of bytes (Err trouble) = Err trouble

-- the same of a message of each kind
abbrev pub message_size : Kind → ℕ → List ℕ → Result ℕ CodecError
message_size kind.Vote members bytes = size_of bytes (vote_at bytes)
message_size kind.Certificate members bytes = size_of bytes (certificate_at members bytes)
message_size kind.Artifact members bytes = size_of bytes (plain_artifact_at members bytes)
message_size kind.Report members bytes = size_of bytes (report_at members bytes)
