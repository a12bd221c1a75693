-- What members send one another: votes, certificates, and asks for the certificates of a view.
use Rattle.std.specs.Prelude.{◌≡◌, ℕ, ◌^◌, ◌-◌, Bool, List, [], ◌∷◌, Option, Some, None, Result, Ok, Err, option_map}
use Rattle.types_codec.specs.declared.codec.CodecError.{CodecError}
use Rattle.types_codec.specs.Varint.{varint, varint_at}
use Rattle.simplex_messages.specs.declared.activity.Activity.{Activity}
use Rattle.messages_certificates.specs.declared.artifact.Artifact.{Artifact}
use Rattle.messages_certificates.specs.declared.artifact.Artifact.TheVariants as artifact
use Rattle.messages_certificates.specs.declared.certificate.Certificate.{Certificate}
use Rattle.messages_certificates.specs.declared.certificate.Certificate.TheVariants as certificate
use Rattle.simplex_messages.specs.declared.vote.Vote.{Vote}
use Rattle.simplex_messages.specs.declared.vote.Vote.TheVariants as vote
use Rattle.simplex_messages.specs.Activity.{activity_at, activity_spelling}
use Rattle.messages_certificates.specs.Artifact.{artifact_at, artifact_spelling}
use Rattle.messages_certificates.specs.Certificate.{any_certificate_spelling, any_certificate_at}
use Rattle.simplex_messages.specs.Vote.{any_vote_spelling, any_vote_at}
use Rattle.simplex_member.specs.declared.event.Channel.{Channel}
use Rattle.simplex_member.specs.declared.event.Channel.TheVariants as channel

-- what one packet holds
pub data Packet (S D P G C : Type 0) : Type 0 where
  of_vote : Vote S D P G C → Packet S D P G C
  of_certificate : Certificate S D P G C → Packet S D P G C
  of_ask : ℕ → Packet S D P G C

-- what a reading gives of exactly these bytes
abbrev pub whole : {A : Type 0} → Result (A × List ℕ) CodecError → Option A
whole (Ok (x, [])) = Some x
whole (Ok (x, byte ∷ rest)) = None
whole (Err e) = None

-- how values are compared, spelled and read
pub record Formats (S D P G C : Type 0) : Type 0 where
  pub same : D → D → Bool
  pub artifact : Artifact S D P G C → List ℕ
  pub certificate : Certificate S D P G C → List ℕ
  pub report : Activity S D P G C → List ℕ
  pub packet : Packet S D P G C → List ℕ
  pub packet_in : Channel → List ℕ → Option (Packet S D P G C)
  pub artifact_in : List ℕ → Option (Artifact S D P G C)
  pub report_in : List ℕ → Option (Activity S D P G C)

module _ {S D P G C : Type 0} where
  -- the channel that a packet goes by
  abbrev pub packet_channel : Packet S D P G C → Channel
  packet_channel (of_vote v) = channel.Votes
  packet_channel (of_certificate c) = channel.Certificates
  packet_channel (of_ask view) = channel.Fetches

  -- a packet can be read: some bytes are exactly it
  abbrev pub IsReadable : Formats S D P G C → Packet S D P G C → Type 0
  IsReadable f x = (bytes : List ℕ) × (f.packet_in (packet_channel x) bytes ≡ Some x)

  -- an artifact can be recorded, and read again in a committee of this size: some bytes are exactly it
  abbrev pub IsRecordable : Formats S D P G C → Artifact S D P G C → Type 0
  IsRecordable f x = (bytes : List ℕ) × (f.artifact_in bytes ≡ Some x)

  -- the packet that an artifact is sent as, if it is a vote or a certificate: no verdict is sent
  abbrev pub packet_of : Artifact S D P G C → Option (Packet S D P G C)
  packet_of (artifact.Notarize v) = Some (of_vote (vote.Notarize v))
  packet_of (artifact.Notarization c) = Some (of_certificate (certificate.Notarization c))
  packet_of (artifact.Certification round ok) = None
  packet_of (artifact.Nullify v) = Some (of_vote (vote.Nullify v))
  packet_of (artifact.Nullification c) = Some (of_certificate (certificate.Nullification c))
  packet_of (artifact.Finalize v) = Some (of_vote (vote.Finalize v))
  packet_of (artifact.Finalization c) = Some (of_certificate (certificate.Finalization c))

  -- a packet's bytes, by the spellings of payloads, signatures and certificates
  abbrev pub packet_spelling : (D → List ℕ) → (G → List ℕ) → (C → List ℕ) → Packet S D P G C → List ℕ
  packet_spelling p q r (of_vote v) = any_vote_spelling p q v
  packet_spelling p q r (of_certificate c) = any_certificate_spelling p r c
  packet_spelling p q r (of_ask view) = varint view

  -- the packet that bytes on a channel are, where they are exactly one, by the readings of payloads, signatures and certificates
  abbrev pub packet_at : (List ℕ → Result (D × List ℕ) CodecError) → (List ℕ → Result (G × List ℕ) CodecError)
      → (List ℕ → Result (C × List ℕ) CodecError)
      → Channel → List ℕ → Option (Packet S D P G C)
  packet_at p q r channel.Votes bytes = option_map of_vote (whole (any_vote_at p q bytes))
  packet_at p q r channel.Certificates bytes = option_map of_certificate (whole (any_certificate_at p r bytes))
  packet_at p q r channel.Fetches bytes = option_map of_ask (whole (varint_at (2 ^ 64 - 1) bytes))

  -- the same of all values, in a committee of so many: by how payloads are compared and spelled, how signatures and certificates are
  -- spelled, and how all three are read under a bound
  abbrev pub formats : (D → D → Bool) → (D → List ℕ) → (G → List ℕ) → (C → List ℕ)
      → (ℕ → List ℕ → Result (D × List ℕ) CodecError) → (ℕ → List ℕ → Result (G × List ℕ) CodecError)
      → (ℕ → List ℕ → Result (C × List ℕ) CodecError)
      → ℕ → Formats S D P G C
  formats same p q r p_at q_at r_at n = record {
    same = same;
    artifact = artifact_spelling p q r;
    certificate = any_certificate_spelling p r;
    report = activity_spelling p q r;
    packet = packet_spelling p q r;
    packet_in = packet_at (p_at n) (q_at n) (r_at n);
    artifact_in = λ bytes. whole (artifact_at (p_at n) (q_at n) (r_at n) bytes);
    report_in = λ bytes. whole (activity_at same (p_at n) (q_at n) (r_at n) bytes);
  }
