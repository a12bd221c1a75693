-- Certificates of the three kinds as bytes.
use Rattle.std.specs.Prelude.{◌≡◌, ℕ, List, ◌∷◌, ◌++◌, Result, Ok, refl}
use Rattle.types_codec.specs.declared.codec.CodecError.{CodecError}
use Rattle.types_core.specs.declared.position.Round.{Round}
use Rattle.types_codec.specs.Codec.{IsCodec, IsChoice, Readable, TakesBehind, or_at, nothing_at, tagged_at, tagged-IsCodec, or-taken, nothing-taken}
use Rattle.types_core.specs.Subject.{Statement, notarize, nullify, finalize}
use Rattle.messages_certificates.specs.declared.certificate.Certificate.{Certificate}
use Rattle.messages_certificates.specs.declared.certificate.Certificate.TheVariants as certificate
use Rattle.messages_certificates.specs.declared.nullification.Nullification.{Nullification}
use Rattle.messages_certificates.specs.ProposalCertificate.{Notarization, Finalization, certificate_spelling, certificate_fits, certificate_at, certificate-IsCodec}
use Rattle.messages_certificates.specs.Nullification.{nullification_spelling, nullification_fits, nullification_at, nullification-IsCodec}

-- a certificate of the scheme S on payloads D, with keys P, signatures G and certificates C
module _ {S D P G C : Type 0} where
  -- the round that the certificate is of
  abbrev pub certificate_round : Certificate S D P G C → Round
  certificate_round (certificate.Notarization c) = c.proposal.round
  certificate_round (certificate.Nullification c) = c.round
  certificate_round (certificate.Finalization c) = c.proposal.round

  -- what the certificate states
  abbrev pub certificate_statement : Certificate S D P G C → Statement D
  certificate_statement (certificate.Notarization c) = notarize c.proposal
  certificate_statement (certificate.Nullification c) = nullify c.round
  certificate_statement (certificate.Finalization c) = finalize c.proposal

  -- what certifies it
  abbrev pub certified_by : Certificate S D P G C → C
  certified_by (certificate.Notarization c) = c.certificate
  certified_by (certificate.Nullification c) = c.certificate
  certified_by (certificate.Finalization c) = c.certificate

  -- the byte that a certificate begins with
  unfoldable pub any_certificate_tag : Certificate S D P G C → ℕ
  any_certificate_tag (certificate.Notarization c) = 0
  any_certificate_tag (certificate.Nullification c) = 1
  any_certificate_tag (certificate.Finalization c) = 2

  -- the bytes behind the tag
  unfoldable pub any_certificate_body : (D → List ℕ) → (C → List ℕ) → Certificate S D P G C → List ℕ
  any_certificate_body p f (certificate.Notarization c) = certificate_spelling p f c
  any_certificate_body p f (certificate.Nullification c) = nullification_spelling f c
  any_certificate_body p f (certificate.Finalization c) = certificate_spelling p f c

  -- a certificate's bytes: the tag, then what it holds
  unfoldable pub any_certificate_spelling : (D → List ℕ) → (C → List ℕ) → Certificate S D P G C → List ℕ
  any_certificate_spelling p f c = any_certificate_tag c ∷ any_certificate_body p f c

  -- a certificate that can be spelled
  unfoldable pub any_certificate_fits : (D → Type 0) → (C → Type 0) → Certificate S D P G C → Type 0
  any_certificate_fits Q F (certificate.Notarization c) = certificate_fits Q F c
  any_certificate_fits Q F (certificate.Nullification c) = nullification_fits F c
  any_certificate_fits Q F (certificate.Finalization c) = certificate_fits Q F c

  -- what a bound asks of it
  unfoldable pub any_certificate_within : (C → Type 0) → Certificate S D P G C → Type 0
  any_certificate_within W (certificate.Notarization c) = W c.certificate
  any_certificate_within W (certificate.Nullification c) = W c.certificate
  any_certificate_within W (certificate.Finalization c) = W c.certificate

  -- and so, where that asks no more of a certificate
  pub any_certificate_within-weaker : {V W : C → Type 0} → ((c : C) → V c → W c) → (x : Certificate S D P G C) → any_certificate_within V x → any_certificate_within W x
  unfolding any_certificate_within
  any_certificate_within-weaker all (certificate.Notarization c) within = all c.certificate within
  any_certificate_within-weaker all (certificate.Nullification c) within = all c.certificate within
  any_certificate_within-weaker all (certificate.Finalization c) within = all c.certificate within

  -- a certificate of one kind, as a certificate
  abbrev pub as_notarization : Notarization S D P G C → Certificate S D P G C
  as_notarization c = certificate.Notarization c

  abbrev pub as_nullification : Nullification S D P G C → Certificate S D P G C
  as_nullification c = certificate.Nullification c

  abbrev pub as_finalization : Finalization S D P G C → Certificate S D P G C
  as_finalization c = certificate.Finalization c

  -- what stands behind a tag
  unfoldable pub any_certificate_behind : (List ℕ → Result (D × List ℕ) CodecError) → (List ℕ → Result (C × List ℕ) CodecError)
      → ℕ → List ℕ → Result (Certificate S D P G C × List ℕ) CodecError
  any_certificate_behind q r = or_at 0 as_notarization (certificate_at q r)
      (or_at 1 as_nullification (nullification_at r) (or_at 2 as_finalization (certificate_at q r) (λ _. nothing_at)))

  -- the certificate at the front: a tag, then what stands behind it
  unfoldable pub any_certificate_at : (List ℕ → Result (D × List ℕ) CodecError) → (List ℕ → Result (C × List ℕ) CodecError)
      → List ℕ → Result (Certificate S D P G C × List ℕ) CodecError
  any_certificate_at q r = tagged_at (any_certificate_behind q r)

  -- behind each tag one form is read, exactly where its bytes stand
  any_certificate-IsChoice : {Q : D → Type 0} {p : D → List ℕ} {q : List ℕ → Result (D × List ℕ) CodecError} {F W : C → Type 0} {f : C → List ℕ} {r : List ℕ → Result (C × List ℕ) CodecError}
      → IsCodec Q p q → IsCodec (Readable F W) f r → IsChoice (Readable (any_certificate_fits Q F) (any_certificate_within W)) any_certificate_tag (any_certificate_body p f) (any_certificate_behind q r)
  unfolding any_certificate_fits any_certificate_within any_certificate_tag any_certificate_body any_certificate_behind
  any_certificate-IsChoice {Q} {p} {q} {F} {W} {f} {r} c d = record { takes = forms.taken; again = again }
    where
      forms : TakesBehind (Readable (any_certificate_fits Q F) (any_certificate_within W)) any_certificate_tag (any_certificate_body p f) (any_certificate_behind q r)
      forms = or-taken 0 as_notarization (certificate-IsCodec c d) (λ v h. (refl, refl, h))
          (or-taken 1 as_nullification (nullification-IsCodec d) (λ v h. (refl, refl, h))
          (or-taken 2 as_finalization (certificate-IsCodec c d) (λ v h. (refl, refl, h)) nothing-taken))

      again : (x : Certificate S D P G C) (rest : List ℕ) → Readable (any_certificate_fits Q F) (any_certificate_within W) x → any_certificate_behind q r (any_certificate_tag x) (any_certificate_body p f x ++ rest) ≡ Ok (x, rest)
      again (certificate.Notarization v) rest fits = rw ((certificate-IsCodec c d).again v rest fits) refl
      again (certificate.Nullification v) rest fits = rw ((nullification-IsCodec d).again v rest fits) refl
      again (certificate.Finalization v) rest fits = rw ((certificate-IsCodec c d).again v rest fits) refl

  -- a certificate is read exactly where its bytes stand
  pub any_certificate-IsCodec : {Q : D → Type 0} {p : D → List ℕ} {q : List ℕ → Result (D × List ℕ) CodecError} {F W : C → Type 0} {f : C → List ℕ} {r : List ℕ → Result (C × List ℕ) CodecError}
      → IsCodec Q p q → IsCodec (Readable F W) f r → IsCodec (Readable (any_certificate_fits Q F) (any_certificate_within W)) (any_certificate_spelling p f) (any_certificate_at q r)
  unfolding any_certificate_spelling any_certificate_at
  any_certificate-IsCodec p r = tagged-IsCodec (any_certificate-IsChoice p r)
