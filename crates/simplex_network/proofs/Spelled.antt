-- A report that holds what can be read can be spelled, and is within the bound of those who read it.
use Rattle.std.proofs.Common.{◌≡◌, ℕ, Bool, List, [], ◌∷◌, Option, Some, Result, Ok, Err, refl, sym, ◌∙◌, ap, subst}
use Rattle.std.specs.Prelude.{option_map, unwrap_or}
use Rattle.std.proofs.lemmas.List.{append-nil}
use Rattle.std.proofs.lemmas.Option.{none-some}
use Rattle.types_codec.specs.declared.codec.CodecError.{CodecError}
use Rattle.types_codec.specs.Codec.{IsCodec, Readable}
use Rattle.types_core.specs.declared.scheme.Scheme.{Ghosts}
use Rattle.messages_certificates.specs.declared.certificate.Certificate.{Certificate}
use Rattle.messages_certificates.specs.declared.certificate.Certificate.TheVariants as certificate
use Rattle.messages_certificates.specs.Certificate.{any_certificate_at, any_certificate_fits, any_certificate_within, any_certificate-IsCodec}
use Rattle.simplex_messages.specs.declared.activity.Activity.{Activity}
use Rattle.simplex_messages.specs.declared.activity.Activity.TheVariants as activity
use Rattle.simplex_messages.specs.declared.vote.Vote.{Vote}
use Rattle.simplex_messages.specs.declared.vote.Vote.TheVariants as vote
use Rattle.simplex_messages.specs.Activity.{activity-IsCodec, activity_at, activity_fits, activity_spelling, activity_within}
use Rattle.simplex_messages.specs.ConflictingVotes.{conflicting_fits}
use Rattle.simplex_messages.specs.NullifyFinalize.{beside_fits}
use Rattle.simplex_messages.specs.Vote.{any_vote_at, any_vote_fits, any_vote-IsCodec}
use Rattle.simplex_member.specs.Deeds.{Deed, Reports}
use Rattle.simplex_member.specs.Laws.{ReadsAsPacket}
use Rattle.simplex_member.specs.Packet.{Formats, IsReadable, Packet, formats, of_certificate, of_vote, whole}
use Rattle.simplex_network.specs.Accountability.{IsInGrammar}
use Rattle.simplex_network.proofs.Readable.{HoldsReadable}

-- what exactly these bytes were read as, under another form, is of what can be read
whole-fits : {A B : Type 0} {Fits : A → Type 0} {spelling : A → List ℕ} {reading : List ℕ → Result (A × List ℕ) CodecError} (made : A → B) (inside : B → A) → ((x : A) → inside (made x) ≡ x) → IsCodec Fits spelling reading
    → (bytes : List ℕ) (x : A) → option_map made (whole (reading bytes)) ≡ Some (made x) → Fits x
whole-fits {A} {B} {Fits} {spelling} {reading} made inside back codec bytes x is = go (reading bytes) refl is
  where
    go : (r : Result (A × List ℕ) CodecError) → reading bytes ≡ r → option_map made (whole r) ≡ Some (made x) → Fits x
    go (Ok (y, [])) read gives =
        let same : y ≡ x = sym (back y) ∙ ap (λ (o : Option B). inside (unwrap_or o (made x))) gives ∙ back x in
        subst Fits same (codec.takes bytes y [] read).1
    go (Ok (y, byte ∷ rest)) read gives = absurd (none-some (made x) gives)
    go (Err e) read gives = absurd (none-some (made x) gives)

module _ {S D P G C : Type 0} (same : D → D → Bool) (p : D → List ℕ) (q : G → List ℕ) (r : C → List ℕ)
    (p_at : ℕ → List ℕ → Result (D × List ℕ) CodecError) (q_at : ℕ → List ℕ → Result (G × List ℕ) CodecError) (r_at : ℕ → List ℕ → Result (C × List ℕ) CodecError) (n : ℕ)
    (Q : D → Type 0) (F : G → Type 0) (R W : C → Type 0) (payloads : IsCodec Q p (p_at n)) (signatures : IsCodec F q (q_at n)) (certificates : IsCodec (Readable R W) r (r_at n)) where
  abbrev These : Formats S D P G C
  These = formats same p q r p_at q_at r_at n

  vote-fits : (v : Vote S D P G C) → IsReadable These (of_vote v) → any_vote_fits Q F v
  vote-fits v read = whole-fits {reading = any_vote_at (p_at n) (q_at n)} of_vote inside (λ x. refl) (any_vote-IsCodec payloads signatures) read.0 v read.1
    where
      inside : Packet S D P G C → Vote S D P G C
      inside (of_vote x) = x
      inside x = v

  certificate-fits : (c : Certificate S D P G C) → IsReadable These (of_certificate c) → Readable (any_certificate_fits Q R) (any_certificate_within W) c
  certificate-fits c read = whole-fits {reading = any_certificate_at (p_at n) (r_at n)} of_certificate inside (λ x. refl) (any_certificate-IsCodec payloads certificates) read.0 c read.1
    where
      inside : Packet S D P G C → Certificate S D P G C
      inside (of_certificate x) = x
      inside x = c

  pub report-fits : (a : Activity S D P G C) → HoldsReadable These a → Readable (activity_fits same Q F R) (activity_within W) a
  unfolding activity_fits activity_within any_vote_fits any_certificate_fits any_certificate_within conflicting_fits beside_fits
  report-fits (activity.Notarize v) read = (vote-fits (vote.Notarize v) read, tt)
  report-fits (activity.Notarization c) read = certificate-fits (certificate.Notarization c) read
  report-fits (activity.Certification c) read = certificate-fits (certificate.Notarization c) read
  report-fits (activity.Nullify v) read = (vote-fits (vote.Nullify v) read, tt)
  report-fits (activity.Nullification c) read = certificate-fits (certificate.Nullification c) read
  report-fits (activity.Finalize v) read = (vote-fits (vote.Finalize v) read, tt)
  report-fits (activity.Finalization c) read = certificate-fits (certificate.Finalization c) read
  report-fits (activity.ConflictingNotarize x) read = (((vote-fits (vote.Notarize x.0) read.0, vote-fits (vote.Notarize x.1) read.1), read.2), tt)
  report-fits (activity.ConflictingFinalize x) read = (((vote-fits (vote.Finalize x.0) read.0, vote-fits (vote.Finalize x.1) read.1), read.2), tt)
  report-fits (activity.NullifyFinalize x) read = (((vote-fits (vote.Nullify x.0) read.0, vote-fits (vote.Finalize x.1) read.1), read.2), tt)

  -- so it is read of its own bytes
  pub report-again : (a : Activity S D P G C) → HoldsReadable These a → These.report_in (These.report a) ≡ Some a
  report-again a read =
      ap whole (subst (λ (l : List ℕ). activity_at same (p_at n) (q_at n) (r_at n) l ≡ Ok (a, [])) (append-nil (activity_spelling p q r a))
      ((activity-IsCodec same payloads signatures certificates).again a [] (report-fits a read)))

-- a deed is in the grammar: it hands out a packet that is, or a report
pub of-deed : {S D P G C : Type 0} (g : Ghosts S D P G C) (f : Formats S D P G C) (d : Deed S D P G C) → ReadsAsPacket g f d
    → ((a : Activity S D P G C) → d ≡ Reports a → f.report_in (f.report a) ≡ Some a) → IsInGrammar g f d
of-deed g f (Reports a) packet report = report a refl
of-deed g f d packet report = packet
