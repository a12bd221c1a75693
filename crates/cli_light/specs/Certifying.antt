-- What a certificate's bytes certify for a committee.
use Rattle.std.specs.Prelude.{◌≡◌, ◌≢◌, ◌⊎◌, ℕ, List, [], Result, Ok, Err}
use Rattle.types_codec.specs.declared.codec.CodecError.{CodecError}
use Rattle.types_codec.specs.declared.codec.CodecError.TheVariants as trouble
use Rattle.types_codec.specs.Codec.{bytes_at}
use Rattle.types_core.specs.declared.attestation.Attestation.{Attestation}
use Rattle.types_core.specs.declared.proposal.Proposal.{Proposal}
use Rattle.types_core.specs.Quorum.{IsQuorum}
use Rattle.types_core.specs.Subject.{Statement, notarize, nullify, finalize}
use Rattle.simplex_types.specs.AttestationList.{list_at}
use Rattle.simplex_types.specs.Plain as plain
use Rattle.messages_certificates.specs.declared.certificate.Certificate.{Certificate}
use Rattle.messages_certificates.specs.Certificate.{any_certificate_at, certificate_round, certificate_statement, certified_by}
use Rattle.cli_settings.specs.declared.setting.Committee.{Committee}
use Rattle.cli_light.specs.declared.certifying.Certified.{Certified}
use Rattle.cli_light.specs.declared.certifying.Certified.TheVariants as certified
use Rattle.cli_light.specs.declared.certifying.Uncertified.{Uncertified}
use Rattle.cli_light.specs.declared.certifying.Uncertified.TheVariants as uncertified

-- a certificate of the plain scheme, and what bytes read as one
abbrev pub PlainCertificate : Type 0
PlainCertificate = Certificate plain.Committee (List ℕ) ℕ (List ℕ) (List (Attestation (List ℕ)))

abbrev pub plain_certificate_at : ℕ → List ℕ → Result (PlainCertificate × List ℕ) CodecError
plain_certificate_at members = any_certificate_at (bytes_at 32) (list_at (bytes_at 32) members)

-- what is said of a proposal or a round
abbrev pub statement_of : Certified → Statement (List ℕ)
statement_of (certified.Notarization p) = notarize p
statement_of (certified.Nullification r) = nullify r
statement_of (certified.Finalization p) = finalize p

module _ (c : Committee) where
  -- these bytes are just this certificate
  abbrev pub Reads : List ℕ → PlainCertificate → Type 0
  Reads bytes it = plain_certificate_at c.members bytes ≡ Ok (it, [])

  -- a quorum of the members signed what it is on
  abbrev pub IsSigned : PlainCertificate → Type 0
  IsSigned it = IsQuorum c.members (λ i a. plain.Attests (λ d. d) c.base.items c.members i (certificate_statement it) a) (certified_by it)

  -- these bytes are a certificate of these members, in their epoch, and it says this
  pub record IsCertified (bytes : List ℕ) (said : Certified) : Type 0 where
    pub it : PlainCertificate
    pub reads : Reads bytes it
    pub says : certificate_statement it ≡ statement_of said
    pub of_epoch : (certificate_round it).epoch ≡ c.epoch
    pub signed : IsSigned it

  -- why it is no certificate of these members, or memory ran out
  abbrev pub Fails : PlainCertificate → Uncertified → Type 0
  Fails it (uncertified.Unread why) = why ≡ trouble.Memory
  Fails it uncertified.OtherEpoch = (certificate_round it).epoch ≢ c.epoch
  Fails it uncertified.NotCertifying = ¬ IsSigned it

  -- the first trouble of bytes that are not just one certificate: of reading it, or that more bytes follow
  abbrev pub IsTrouble : List ℕ → CodecError → Type 0
  IsTrouble bytes why =
      (plain_certificate_at c.members bytes ≡ Err why)
      ⊎ ((why ≡ trouble.Invalid) × ((it : PlainCertificate) × (rest : List ℕ) × (plain_certificate_at c.members bytes ≡ Ok (it, rest)) × (rest ≢ [])))

  -- why these bytes certify nothing: memory ran out, they are not just one certificate, or it is one that these members didn't make
  abbrev pub Answers : List ℕ → Uncertified → Type 0
  Answers bytes (uncertified.Unread why) = (why ≡ trouble.Memory) ⊎ IsTrouble bytes why
  Answers bytes uncertified.OtherEpoch = (it : PlainCertificate) × Reads bytes it × ((certificate_round it).epoch ≢ c.epoch)
  Answers bytes uncertified.NotCertifying = (it : PlainCertificate) × Reads bytes it × ¬ IsSigned it
