-- Artifacts of a record as bytes.
use Rattle.std.specs.Prelude.{◌≡◌, ℕ, Bool, List, ◌∷◌, ◌++◌, Result, Ok, refl, ⊤}
use Rattle.types_codec.specs.declared.codec.CodecError.{CodecError}
use Rattle.types_core.specs.declared.position.Round.{Round}
use Rattle.types_codec.specs.Codec.{IsCodec, IsChoice, Readable, TakesBehind, or_at, both_at, nothing_at, tagged_at, tagged-IsCodec, both-IsCodec, or-taken, nothing-taken}
use Rattle.types_core.specs.Round.{round_spelling, round_fits, round_at, round-IsCodec}
use Rattle.types_codec.specs.Truth.{truth_spelling, truth_at, truth-IsCodec}
use Rattle.messages_certificates.specs.declared.artifact.Artifact.{Artifact}
use Rattle.messages_certificates.specs.declared.artifact.Artifact.TheVariants as artifact
use Rattle.messages_certificates.specs.declared.certificate.Certificate.{Certificate}
use Rattle.messages_certificates.specs.declared.certificate.Certificate.TheVariants as certificate
use Rattle.messages_certificates.specs.declared.nullify.Nullify.{Nullify}
use Rattle.messages_certificates.specs.declared.nullification.Nullification.{Nullification}
use Rattle.messages_certificates.specs.ProposalVote.{Notarize, Finalize, vote_spelling, vote_fits, vote_at, vote-IsCodec}
use Rattle.messages_certificates.specs.Nullify.{nullify_spelling, nullify_fits, nullify_at, nullify-IsCodec}
use Rattle.messages_certificates.specs.ProposalCertificate.{Notarization, Finalization, certificate_spelling, certificate_fits, certificate_at, certificate-IsCodec}
use Rattle.messages_certificates.specs.Nullification.{nullification_spelling, nullification_fits, nullification_at, nullification-IsCodec}

-- an artifact of the scheme S on payloads D, with keys P, signatures G and certificates C
module _ {S D P G C : Type 0} where
  -- the round that the artifact is of
  abbrev pub artifact_round : Artifact S D P G C → Round
  artifact_round (artifact.Notarize v) = v.proposal.round
  artifact_round (artifact.Notarization c) = c.proposal.round
  artifact_round (artifact.Certification round ok) = round
  artifact_round (artifact.Nullify v) = v.round
  artifact_round (artifact.Nullification c) = c.round
  artifact_round (artifact.Finalize v) = v.proposal.round
  artifact_round (artifact.Finalization c) = c.proposal.round

  -- the byte that an artifact begins with
  unfoldable pub artifact_tag : Artifact S D P G C → ℕ
  artifact_tag (artifact.Notarize v) = 0
  artifact_tag (artifact.Notarization c) = 1
  artifact_tag (artifact.Certification round ok) = 2
  artifact_tag (artifact.Nullify v) = 3
  artifact_tag (artifact.Nullification c) = 4
  artifact_tag (artifact.Finalize v) = 5
  artifact_tag (artifact.Finalization c) = 6

  -- the bytes behind the tag, by the spellings of payloads, signatures and certificates
  unfoldable pub artifact_body : (D → List ℕ) → (G → List ℕ) → (C → List ℕ) → Artifact S D P G C → List ℕ
  artifact_body p f g (artifact.Notarize v) = vote_spelling p f v
  artifact_body p f g (artifact.Notarization c) = certificate_spelling p g c
  artifact_body p f g (artifact.Certification round ok) = round_spelling round ++ truth_spelling ok
  artifact_body p f g (artifact.Nullify v) = nullify_spelling f v
  artifact_body p f g (artifact.Nullification c) = nullification_spelling g c
  artifact_body p f g (artifact.Finalize v) = vote_spelling p f v
  artifact_body p f g (artifact.Finalization c) = certificate_spelling p g c

  -- an artifact's bytes: the tag, then what it holds
  unfoldable pub artifact_spelling : (D → List ℕ) → (G → List ℕ) → (C → List ℕ) → Artifact S D P G C → List ℕ
  artifact_spelling p f g x = artifact_tag x ∷ artifact_body p f g x

  -- an artifact that can be spelled
  unfoldable pub artifact_fits : (D → Type 0) → (G → Type 0) → (C → Type 0) → Artifact S D P G C → Type 0
  artifact_fits Q F H (artifact.Notarize v) = vote_fits Q F v
  artifact_fits Q F H (artifact.Notarization c) = certificate_fits Q H c
  artifact_fits Q F H (artifact.Certification round ok) = round_fits round × ⊤
  artifact_fits Q F H (artifact.Nullify v) = nullify_fits F v
  artifact_fits Q F H (artifact.Nullification c) = nullification_fits H c
  artifact_fits Q F H (artifact.Finalize v) = vote_fits Q F v
  artifact_fits Q F H (artifact.Finalization c) = certificate_fits Q H c

  -- what a bound asks of it: what it asks of the certificate that it holds
  unfoldable pub artifact_within : (C → Type 0) → Artifact S D P G C → Type 0
  artifact_within W (artifact.Notarize v) = ⊤
  artifact_within W (artifact.Notarization c) = W c.certificate
  artifact_within W (artifact.Certification round ok) = ⊤
  artifact_within W (artifact.Nullify v) = ⊤
  artifact_within W (artifact.Nullification c) = W c.certificate
  artifact_within W (artifact.Finalize v) = ⊤
  artifact_within W (artifact.Finalization c) = W c.certificate

  -- and so, where that asks no more of a certificate
  pub artifact_within-weaker : {V W : C → Type 0} → ((c : C) → V c → W c) → (x : Artifact S D P G C) → artifact_within V x → artifact_within W x
  unfolding artifact_within
  artifact_within-weaker all (artifact.Notarize v) within = within
  artifact_within-weaker all (artifact.Notarization c) within = all c.certificate within
  artifact_within-weaker all (artifact.Certification round ok) within = within
  artifact_within-weaker all (artifact.Nullify v) within = within
  artifact_within-weaker all (artifact.Nullification c) within = all c.certificate within
  artifact_within-weaker all (artifact.Finalize v) within = within
  artifact_within-weaker all (artifact.Finalization c) within = all c.certificate within

  -- a value of each kind, as an artifact
  abbrev pub notarize_artifact : Notarize S D P G C → Artifact S D P G C
  notarize_artifact v = artifact.Notarize v

  abbrev pub notarization_artifact : Notarization S D P G C → Artifact S D P G C
  notarization_artifact c = artifact.Notarization c

  abbrev pub certification_artifact : Round × Bool → Artifact S D P G C
  certification_artifact v = artifact.Certification v.0 v.1

  abbrev pub nullify_artifact : Nullify S D P G C → Artifact S D P G C
  nullify_artifact v = artifact.Nullify v

  abbrev pub nullification_artifact : Nullification S D P G C → Artifact S D P G C
  nullification_artifact c = artifact.Nullification c

  abbrev pub finalize_artifact : Finalize S D P G C → Artifact S D P G C
  finalize_artifact v = artifact.Finalize v

  abbrev pub finalization_artifact : Finalization S D P G C → Artifact S D P G C
  finalization_artifact c = artifact.Finalization c

  -- a certificate of any kind, as an artifact
  abbrev pub certificate_artifact : Certificate S D P G C → Artifact S D P G C
  certificate_artifact (certificate.Notarization c) = artifact.Notarization c
  certificate_artifact (certificate.Nullification c) = artifact.Nullification c
  certificate_artifact (certificate.Finalization c) = artifact.Finalization c

  -- what stands behind a tag
  unfoldable pub artifact_behind : (List ℕ → Result (D × List ℕ) CodecError) → (List ℕ → Result (G × List ℕ) CodecError)
      → (List ℕ → Result (C × List ℕ) CodecError) → ℕ → List ℕ → Result (Artifact S D P G C × List ℕ) CodecError
  artifact_behind q r s =
      or_at 0 notarize_artifact (vote_at q r) (
      or_at 1 notarization_artifact (certificate_at q s) (
      or_at 2 certification_artifact (both_at round_at truth_at) (
      or_at 3 nullify_artifact (nullify_at r) (
      or_at 4 nullification_artifact (nullification_at s) (
      or_at 5 finalize_artifact (vote_at q r) (
      or_at 6 finalization_artifact (certificate_at q s) (λ _. nothing_at)))))))

  -- the artifact at the front: a tag, then what stands behind it
  unfoldable pub artifact_at : (List ℕ → Result (D × List ℕ) CodecError) → (List ℕ → Result (G × List ℕ) CodecError)
      → (List ℕ → Result (C × List ℕ) CodecError) → List ℕ → Result (Artifact S D P G C × List ℕ) CodecError
  artifact_at q r s = tagged_at (artifact_behind q r s)

  -- behind each tag one form is read, exactly where its bytes stand
  artifact-IsChoice : {Q : D → Type 0} {p : D → List ℕ} {q : List ℕ → Result (D × List ℕ) CodecError} {F : G → Type 0} {f : G → List ℕ} {r : List ℕ → Result (G × List ℕ) CodecError} {H W : C → Type 0} {g : C → List ℕ} {s : List ℕ → Result (C × List ℕ) CodecError}
      → IsCodec Q p q → IsCodec F f r → IsCodec (Readable H W) g s → IsChoice (Readable (artifact_fits Q F H) (artifact_within W)) artifact_tag (artifact_body p f g) (artifact_behind q r s)
  unfolding artifact_fits artifact_within artifact_tag artifact_body artifact_behind
  artifact-IsChoice {Q} {p} {q} {F} {f} {r} {H} {W} {g} {s} c d e = record { takes = forms.taken; again = again }
    where
      forms : TakesBehind (Readable (artifact_fits Q F H) (artifact_within W)) artifact_tag (artifact_body p f g) (artifact_behind q r s)
      forms = or-taken 0 notarize_artifact (vote-IsCodec c d) (λ v h. (refl, refl, (h, tt)))
          (or-taken 1 notarization_artifact (certificate-IsCodec c e) (λ v h. (refl, refl, h))
          (or-taken 2 certification_artifact (both-IsCodec round-IsCodec truth-IsCodec) (λ v h. (refl, refl, (h, tt)))
          (or-taken 3 nullify_artifact (nullify-IsCodec d) (λ v h. (refl, refl, (h, tt)))
          (or-taken 4 nullification_artifact (nullification-IsCodec e) (λ v h. (refl, refl, h))
          (or-taken 5 finalize_artifact (vote-IsCodec c d) (λ v h. (refl, refl, (h, tt)))
          (or-taken 6 finalization_artifact (certificate-IsCodec c e) (λ v h. (refl, refl, h)) nothing-taken))))))

      again : (x : Artifact S D P G C) (rest : List ℕ) → Readable (artifact_fits Q F H) (artifact_within W) x → artifact_behind q r s (artifact_tag x) (artifact_body p f g x ++ rest) ≡ Ok (x, rest)
      again (artifact.Notarize v) rest fits = rw ((vote-IsCodec c d).again v rest fits.0) refl
      again (artifact.Notarization v) rest fits = rw ((certificate-IsCodec c e).again v rest fits) refl
      again (artifact.Certification round ok) rest fits = rw ((both-IsCodec round-IsCodec truth-IsCodec).again (round, ok) rest fits.0) refl
      again (artifact.Nullify v) rest fits = rw ((nullify-IsCodec d).again v rest fits.0) refl
      again (artifact.Nullification v) rest fits = rw ((nullification-IsCodec e).again v rest fits) refl
      again (artifact.Finalize v) rest fits = rw ((vote-IsCodec c d).again v rest fits.0) refl
      again (artifact.Finalization v) rest fits = rw ((certificate-IsCodec c e).again v rest fits) refl

  -- an artifact is read exactly where its bytes stand
  pub artifact-IsCodec : {Q : D → Type 0} {p : D → List ℕ} {q : List ℕ → Result (D × List ℕ) CodecError} {F : G → Type 0} {f : G → List ℕ} {r : List ℕ → Result (G × List ℕ) CodecError} {H W : C → Type 0} {g : C → List ℕ} {s : List ℕ → Result (C × List ℕ) CodecError}
      → IsCodec Q p q → IsCodec F f r → IsCodec (Readable H W) g s → IsCodec (Readable (artifact_fits Q F H) (artifact_within W)) (artifact_spelling p f g) (artifact_at q r s)
  unfolding artifact_spelling artifact_at
  artifact-IsCodec c d e = tagged-IsCodec (artifact-IsChoice c d e)
