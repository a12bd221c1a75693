-- Certificates for a proposal: their bytes, and what they are made of.
use Rattle.std.specs.Prelude.{ℕ, List, ◌++◌, Result, refl}
use Rattle.types_codec.specs.declared.codec.CodecError.{CodecError}
use Rattle.types_core.specs.declared.proposal.Proposal.{Proposal}
use Rattle.types_core.specs.declared.attestation.Attestation.{Attestation}
use Rattle.types_codec.specs.Codec.{IsCodec, Readable, both_at, as_at, both-IsCodec, as-IsCodec, said-IsCodec}
use Rattle.types_core.specs.Proposal.{proposal_spelling, proposal_fits, proposal_at, proposal-IsCodec}
use Rattle.types_core.specs.Subject.{Statement}
use Rattle.messages_certificates.specs.declared.kind.Notarizing.{Notarizing}
use Rattle.messages_certificates.specs.declared.kind.Finalizing.{Finalizing}
use Rattle.messages_certificates.specs.declared.proposal_vote.ProposalVote.{ProposalVote}
use Rattle.messages_certificates.specs.declared.proposal_certificate.ProposalCertificate.{ProposalCertificate}
use Rattle.messages_certificates.specs.Assembly.{CanAssemble, IsMadeOf}

-- a certificate that a proposal may be built on
abbrev pub Notarization : (S D P G C : Type 0) → Type 0
Notarization S D P G C = ProposalCertificate Notarizing S D P G C

-- a certificate that a proposal is final
abbrev pub Finalization : (S D P G C : Type 0) → Type 0
Finalization S D P G C = ProposalCertificate Finalizing S D P G C

-- a certificate of the kind K and the scheme S on payloads D, with keys P, signatures G and certificates C
module _ {K S D P G C : Type 0} where
  -- a certificate from what is certified and what certifies it
  abbrev pub certificate_of_parts : Proposal D × C → ProposalCertificate K S D P G C
  certificate_of_parts p = record { proposal = p.0; certificate = p.1; kind = record {} }

  -- what is certified, and what certifies it
  abbrev pub certificate_parts : ProposalCertificate K S D P G C → Proposal D × C
  certificate_parts c = (c.proposal, c.certificate)

  -- a certificate's bytes: the proposal, then what certifies it
  unfoldable pub certificate_spelling : (D → List ℕ) → (C → List ℕ) → ProposalCertificate K S D P G C → List ℕ
  certificate_spelling payload spelling c = proposal_spelling payload c.proposal ++ spelling c.certificate

  -- a certificate whose numbers fit their types
  unfoldable pub certificate_fits : (D → Type 0) → (C → Type 0) → ProposalCertificate K S D P G C → Type 0
  certificate_fits Q F c = proposal_fits Q c.proposal × F c.certificate

  -- the certificate at the front: a proposal, then what certifies it
  unfoldable pub certificate_at : (List ℕ → Result (D × List ℕ) CodecError) → (List ℕ → Result (C × List ℕ) CodecError) → List ℕ
      → Result (ProposalCertificate K S D P G C × List ℕ) CodecError
  certificate_at payload reading = as_at certificate_of_parts (both_at (proposal_at payload) reading)

  -- a certificate is read exactly where its bytes stand
  pub certificate-IsCodec : {Q : D → Type 0} {p : D → List ℕ} {q : List ℕ → Result (D × List ℕ) CodecError} {F W : C → Type 0} {f : C → List ℕ} {r : List ℕ → Result (C × List ℕ) CodecError}
      → IsCodec Q p q → IsCodec (Readable F W) f r → IsCodec (Readable (certificate_fits Q F) (λ c. W c.certificate)) (certificate_spelling p f) (certificate_at q r)
  unfolding certificate_fits certificate_spelling certificate_at
  certificate-IsCodec p r = said-IsCodec (as-IsCodec certificate_of_parts certificate_parts (λ x. refl) (λ y. refl) (both-IsCodec (proposal-IsCodec p) r))
      (λ x h. ((h.0, h.1.0), h.1.1))
      (λ x h. (h.0.0, (h.0.1, h.1)))

  -- votes on one proposal by distinct members of a committee of n, one or more
  abbrev pub CanCertify : ℕ → List (ProposalVote K S D P G C) → Type 0
  CanCertify n votes = CanAssemble (λ v. v.proposal) (λ v. v.attestation) n votes

  -- the certificate was made of these votes
  abbrev pub IsCertificateOf : (Proposal D → Statement D) → (ℕ → Statement D → G → Type 0) → (Statement D → C → Type 0) → (C → List (Attestation G)) → Type 0 → List (ProposalVote K S D P G C) → ProposalCertificate K S D P G C → Type 0
  IsCertificateOf states attests certifies lists Enumerates votes c = IsMadeOf (λ v. v.proposal) (λ v. v.attestation) states attests certifies lists Enumerates votes c.proposal c.certificate
