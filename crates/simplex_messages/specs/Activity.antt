-- Reports: what they are of and what they claim, and their bytes.
use Rattle.std.specs.Prelude.{◌≡◌, ℕ, Bool, List, ◌∷◌, ◌++◌, Result, Ok, refl, ⊤}
use Rattle.types_codec.specs.declared.codec.CodecError.{CodecError}
use Rattle.types_core.specs.declared.position.Round.{Round}
use Rattle.types_codec.specs.Codec.{IsCodec, IsChoice, Readable, TakesBehind, or_at, nothing_at, tagged_at, tagged-IsCodec, or-taken, nothing-taken}
use Rattle.types_core.specs.Subject.{Statement, notarize, nullify, finalize}
use Rattle.simplex_messages.specs.declared.activity.Activity.{Activity}
use Rattle.simplex_messages.specs.declared.activity.Activity.TheVariants as activity
use Rattle.simplex_messages.specs.declared.vote.Vote.{Vote}
use Rattle.simplex_messages.specs.declared.vote.Vote.TheVariants as vote
use Rattle.messages_certificates.specs.declared.certificate.Certificate.{Certificate}
use Rattle.messages_certificates.specs.declared.certificate.Certificate.TheVariants as certificate
use Rattle.messages_certificates.specs.declared.nullify.Nullify.{Nullify}
use Rattle.messages_certificates.specs.declared.nullification.Nullification.{Nullification}
use Rattle.messages_certificates.specs.ProposalVote.{Notarize, Finalize, IsAttested, vote_spelling, vote_fits, vote_at, vote-IsCodec}
use Rattle.messages_certificates.specs.Nullify.{NullifyIsAttested, nullify_spelling, nullify_fits, nullify_at, nullify-IsCodec}
use Rattle.messages_certificates.specs.ProposalCertificate.{Notarization, Finalization, certificate_spelling, certificate_fits, certificate_at, certificate-IsCodec}
use Rattle.messages_certificates.specs.Nullification.{nullification_spelling, nullification_fits, nullification_at, nullification-IsCodec}
use Rattle.simplex_messages.specs.ConflictingVotes.{conflicting_spelling, conflicting_fits, conflicting_at, conflicting-IsCodec}
use Rattle.simplex_messages.specs.NullifyFinalize.{beside_spelling, beside_fits, beside_at, beside-IsCodec}

-- a report of the scheme S on payloads D, with keys P, signatures G and certificates C
module _ {S D P G C : Type 0} where
  -- the round that the report is of
  abbrev pub activity_round : Activity S D P G C → Round
  activity_round (activity.Notarize v) = v.proposal.round
  activity_round (activity.Notarization c) = c.proposal.round
  activity_round (activity.Certification c) = c.proposal.round
  activity_round (activity.Nullify v) = v.round
  activity_round (activity.Nullification c) = c.round
  activity_round (activity.Finalize v) = v.proposal.round
  activity_round (activity.Finalization c) = c.proposal.round
  activity_round (activity.ConflictingNotarize x) = x.0.proposal.round
  activity_round (activity.ConflictingFinalize x) = x.0.proposal.round
  activity_round (activity.NullifyFinalize x) = x.0.round

  -- the report of a vote
  abbrev pub vote_activity : Vote S D P G C → Activity S D P G C
  vote_activity (vote.Notarize v) = activity.Notarize v
  vote_activity (vote.Nullify v) = activity.Nullify v
  vote_activity (vote.Finalize v) = activity.Finalize v

  -- the report of a certificate that was seen
  abbrev pub certificate_activity : Certificate S D P G C → Activity S D P G C
  certificate_activity (certificate.Notarization c) = activity.Notarization c
  certificate_activity (certificate.Nullification c) = activity.Nullification c
  certificate_activity (certificate.Finalization c) = activity.Finalization c

  -- what the report holds is right: a vote or both votes of evidence are attested, a certificate certifies
  abbrev pub IsRight : (ℕ → Statement D → G → Type 0) → (Statement D → C → Type 0) → Activity S D P G C → Type 0
  IsRight attests certifies (activity.Notarize v) = IsAttested notarize attests v
  IsRight attests certifies (activity.Notarization c) = certifies (notarize c.proposal) c.certificate
  IsRight attests certifies (activity.Certification c) = certifies (notarize c.proposal) c.certificate
  IsRight attests certifies (activity.Nullify v) = NullifyIsAttested attests v
  IsRight attests certifies (activity.Nullification c) = certifies (nullify c.round) c.certificate
  IsRight attests certifies (activity.Finalize v) = IsAttested finalize attests v
  IsRight attests certifies (activity.Finalization c) = certifies (finalize c.proposal) c.certificate
  IsRight attests certifies (activity.ConflictingNotarize x) = IsAttested notarize attests x.0 × IsAttested notarize attests x.1
  IsRight attests certifies (activity.ConflictingFinalize x) = IsAttested finalize attests x.0 × IsAttested finalize attests x.1
  IsRight attests certifies (activity.NullifyFinalize x) = NullifyIsAttested attests x.0 × IsAttested finalize attests x.1

  -- the report holds a certificate
  abbrev pub HoldsCertificate : Activity S D P G C → Type 0
  HoldsCertificate (activity.Notarize v) = ⊥
  HoldsCertificate (activity.Notarization c) = ⊤
  HoldsCertificate (activity.Certification c) = ⊤
  HoldsCertificate (activity.Nullify v) = ⊥
  HoldsCertificate (activity.Nullification c) = ⊤
  HoldsCertificate (activity.Finalize v) = ⊥
  HoldsCertificate (activity.Finalization c) = ⊤
  HoldsCertificate (activity.ConflictingNotarize x) = ⊥
  HoldsCertificate (activity.ConflictingFinalize x) = ⊥
  HoldsCertificate (activity.NullifyFinalize x) = ⊥

  -- the byte that a report begins with
  unfoldable pub activity_tag : Activity S D P G C → ℕ
  activity_tag (activity.Notarize v) = 0
  activity_tag (activity.Notarization c) = 1
  activity_tag (activity.Certification c) = 2
  activity_tag (activity.Nullify v) = 3
  activity_tag (activity.Nullification c) = 4
  activity_tag (activity.Finalize v) = 5
  activity_tag (activity.Finalization c) = 6
  activity_tag (activity.ConflictingNotarize x) = 7
  activity_tag (activity.ConflictingFinalize x) = 8
  activity_tag (activity.NullifyFinalize x) = 9

  -- the bytes behind the tag, by the spellings of payloads, signatures and certificates
  unfoldable pub activity_body : (D → List ℕ) → (G → List ℕ) → (C → List ℕ) → Activity S D P G C → List ℕ
  activity_body p f g (activity.Notarize v) = vote_spelling p f v
  activity_body p f g (activity.Notarization c) = certificate_spelling p g c
  activity_body p f g (activity.Certification c) = certificate_spelling p g c
  activity_body p f g (activity.Nullify v) = nullify_spelling f v
  activity_body p f g (activity.Nullification c) = nullification_spelling g c
  activity_body p f g (activity.Finalize v) = vote_spelling p f v
  activity_body p f g (activity.Finalization c) = certificate_spelling p g c
  activity_body p f g (activity.ConflictingNotarize x) = conflicting_spelling p f x
  activity_body p f g (activity.ConflictingFinalize x) = conflicting_spelling p f x
  activity_body p f g (activity.NullifyFinalize x) = beside_spelling p f x

  -- a report's bytes: the tag, then what it holds
  unfoldable pub activity_spelling : (D → List ℕ) → (G → List ℕ) → (C → List ℕ) → Activity S D P G C → List ℕ
  activity_spelling p f g a = activity_tag a ∷ activity_body p f g a

  -- a report that can be spelled
  unfoldable pub activity_fits : (D → D → Bool) → (D → Type 0) → (G → Type 0) → (C → Type 0) → Activity S D P G C → Type 0
  activity_fits same Q F H (activity.Notarize v) = vote_fits Q F v
  activity_fits same Q F H (activity.Notarization c) = certificate_fits Q H c
  activity_fits same Q F H (activity.Certification c) = certificate_fits Q H c
  activity_fits same Q F H (activity.Nullify v) = nullify_fits F v
  activity_fits same Q F H (activity.Nullification c) = nullification_fits H c
  activity_fits same Q F H (activity.Finalize v) = vote_fits Q F v
  activity_fits same Q F H (activity.Finalization c) = certificate_fits Q H c
  activity_fits same Q F H (activity.ConflictingNotarize x) = conflicting_fits same Q F x
  activity_fits same Q F H (activity.ConflictingFinalize x) = conflicting_fits same Q F x
  activity_fits same Q F H (activity.NullifyFinalize x) = beside_fits Q F x

  -- what a bound asks of it: what it asks of the certificate that it holds
  unfoldable pub activity_within : (C → Type 0) → Activity S D P G C → Type 0
  activity_within W (activity.Notarize v) = ⊤
  activity_within W (activity.Notarization c) = W c.certificate
  activity_within W (activity.Certification c) = W c.certificate
  activity_within W (activity.Nullify v) = ⊤
  activity_within W (activity.Nullification c) = W c.certificate
  activity_within W (activity.Finalize v) = ⊤
  activity_within W (activity.Finalization c) = W c.certificate
  activity_within W (activity.ConflictingNotarize x) = ⊤
  activity_within W (activity.ConflictingFinalize x) = ⊤
  activity_within W (activity.NullifyFinalize x) = ⊤

  -- and so, where that asks no more of a certificate
  pub activity_within-weaker : {V W : C → Type 0} → ((c : C) → V c → W c) → (x : Activity S D P G C) → activity_within V x → activity_within W x
  unfolding activity_within
  activity_within-weaker all (activity.Notarize v) within = within
  activity_within-weaker all (activity.Notarization c) within = all c.certificate within
  activity_within-weaker all (activity.Certification c) within = all c.certificate within
  activity_within-weaker all (activity.Nullify v) within = within
  activity_within-weaker all (activity.Nullification c) within = all c.certificate within
  activity_within-weaker all (activity.Finalize v) within = within
  activity_within-weaker all (activity.Finalization c) within = all c.certificate within
  activity_within-weaker all (activity.ConflictingNotarize x) within = within
  activity_within-weaker all (activity.ConflictingFinalize x) within = within
  activity_within-weaker all (activity.NullifyFinalize x) within = within

  -- what a report of each kind holds, as a report
  abbrev pub notarize_report : Notarize S D P G C → Activity S D P G C
  notarize_report v = activity.Notarize v

  abbrev pub notarization_report : Notarization S D P G C → Activity S D P G C
  notarization_report c = activity.Notarization c

  abbrev pub certification_report : Notarization S D P G C → Activity S D P G C
  certification_report c = activity.Certification c

  abbrev pub nullify_report : Nullify S D P G C → Activity S D P G C
  nullify_report v = activity.Nullify v

  abbrev pub nullification_report : Nullification S D P G C → Activity S D P G C
  nullification_report c = activity.Nullification c

  abbrev pub finalize_report : Finalize S D P G C → Activity S D P G C
  finalize_report v = activity.Finalize v

  abbrev pub finalization_report : Finalization S D P G C → Activity S D P G C
  finalization_report c = activity.Finalization c

  abbrev pub conflicting_notarize_report : Notarize S D P G C × Notarize S D P G C → Activity S D P G C
  conflicting_notarize_report x = activity.ConflictingNotarize x

  abbrev pub conflicting_finalize_report : Finalize S D P G C × Finalize S D P G C → Activity S D P G C
  conflicting_finalize_report x = activity.ConflictingFinalize x

  abbrev pub nullify_finalize_report : Nullify S D P G C × Finalize S D P G C → Activity S D P G C
  nullify_finalize_report x = activity.NullifyFinalize x

  -- what stands behind a tag
  unfoldable pub activity_behind : (D → D → Bool) → (List ℕ → Result (D × List ℕ) CodecError)
      → (List ℕ → Result (G × List ℕ) CodecError) → (List ℕ → Result (C × List ℕ) CodecError) → ℕ → List ℕ
      → Result (Activity S D P G C × List ℕ) CodecError
  activity_behind same q r s =
      or_at 0 notarize_report (vote_at q r) (
      or_at 1 notarization_report (certificate_at q s) (
      or_at 2 certification_report (certificate_at q s) (
      or_at 3 nullify_report (nullify_at r) (
      or_at 4 nullification_report (nullification_at s) (
      or_at 5 finalize_report (vote_at q r) (
      or_at 6 finalization_report (certificate_at q s) (
      or_at 7 conflicting_notarize_report (conflicting_at same q r) (
      or_at 8 conflicting_finalize_report (conflicting_at same q r) (
      or_at 9 nullify_finalize_report (beside_at q r) (λ _. nothing_at))))))))))

  -- the report at the front: a tag, then what stands behind it
  unfoldable pub activity_at : (D → D → Bool) → (List ℕ → Result (D × List ℕ) CodecError)
      → (List ℕ → Result (G × List ℕ) CodecError) → (List ℕ → Result (C × List ℕ) CodecError) → List ℕ
      → Result (Activity S D P G C × List ℕ) CodecError
  activity_at same q r s = tagged_at (activity_behind same q r s)

  -- behind each tag one form is read, exactly where its bytes stand
  activity-IsChoice : {Q : D → Type 0} {p : D → List ℕ} {q : List ℕ → Result (D × List ℕ) CodecError} {F : G → Type 0} {f : G → List ℕ} {r : List ℕ → Result (G × List ℕ) CodecError} {H W : C → Type 0} {g : C → List ℕ} {s : List ℕ → Result (C × List ℕ) CodecError}
      (same : D → D → Bool) → IsCodec Q p q → IsCodec F f r → IsCodec (Readable H W) g s
      → IsChoice (Readable (activity_fits same Q F H) (activity_within W)) activity_tag (activity_body p f g) (activity_behind same q r s)
  unfolding activity_fits activity_within activity_tag activity_body activity_behind
  activity-IsChoice {Q} {p} {q} {F} {f} {r} {H} {W} {g} {s} same c d e = record { takes = forms.taken; again = again }
    where
      forms : TakesBehind (Readable (activity_fits same Q F H) (activity_within W)) activity_tag (activity_body p f g) (activity_behind same q r s)
      forms = or-taken 0 notarize_report (vote-IsCodec c d) (λ x h. (refl, refl, (h, tt))) (
          or-taken 1 notarization_report (certificate-IsCodec c e) (λ x h. (refl, refl, h)) (
          or-taken 2 certification_report (certificate-IsCodec c e) (λ x h. (refl, refl, h)) (
          or-taken 3 nullify_report (nullify-IsCodec d) (λ x h. (refl, refl, (h, tt))) (
          or-taken 4 nullification_report (nullification-IsCodec e) (λ x h. (refl, refl, h)) (
          or-taken 5 finalize_report (vote-IsCodec c d) (λ x h. (refl, refl, (h, tt))) (
          or-taken 6 finalization_report (certificate-IsCodec c e) (λ x h. (refl, refl, h)) (
          or-taken 7 conflicting_notarize_report (conflicting-IsCodec same c d) (λ x h. (refl, refl, (h, tt))) (
          or-taken 8 conflicting_finalize_report (conflicting-IsCodec same c d) (λ x h. (refl, refl, (h, tt))) (
          or-taken 9 nullify_finalize_report (beside-IsCodec c d) (λ x h. (refl, refl, (h, tt))) nothing-taken)))))))))

      again : (x : Activity S D P G C) (rest : List ℕ) → Readable (activity_fits same Q F H) (activity_within W) x → activity_behind same q r s (activity_tag x) (activity_body p f g x ++ rest) ≡ Ok (x, rest)
      again (activity.Notarize x) rest fits = rw ((vote-IsCodec c d).again x rest fits.0) refl
      again (activity.Notarization x) rest fits = rw ((certificate-IsCodec c e).again x rest fits) refl
      again (activity.Certification x) rest fits = rw ((certificate-IsCodec c e).again x rest fits) refl
      again (activity.Nullify x) rest fits = rw ((nullify-IsCodec d).again x rest fits.0) refl
      again (activity.Nullification x) rest fits = rw ((nullification-IsCodec e).again x rest fits) refl
      again (activity.Finalize x) rest fits = rw ((vote-IsCodec c d).again x rest fits.0) refl
      again (activity.Finalization x) rest fits = rw ((certificate-IsCodec c e).again x rest fits) refl
      again (activity.ConflictingNotarize x) rest fits = rw ((conflicting-IsCodec same c d).again x rest fits.0) refl
      again (activity.ConflictingFinalize x) rest fits = rw ((conflicting-IsCodec same c d).again x rest fits.0) refl
      again (activity.NullifyFinalize x) rest fits = rw ((beside-IsCodec c d).again x rest fits.0) refl

  -- a report is read exactly where its bytes stand
  pub activity-IsCodec : {Q : D → Type 0} {p : D → List ℕ} {q : List ℕ → Result (D × List ℕ) CodecError} {F : G → Type 0} {f : G → List ℕ} {r : List ℕ → Result (G × List ℕ) CodecError} {H W : C → Type 0} {g : C → List ℕ} {s : List ℕ → Result (C × List ℕ) CodecError}
      (same : D → D → Bool) → IsCodec Q p q → IsCodec F f r → IsCodec (Readable H W) g s
      → IsCodec (Readable (activity_fits same Q F H) (activity_within W)) (activity_spelling p f g) (activity_at same q r s)
  unfolding activity_spelling activity_at
  activity-IsCodec same c d e = tagged-IsCodec (activity-IsChoice same c d e)
