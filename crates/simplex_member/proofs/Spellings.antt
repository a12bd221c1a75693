-- Packets that can be read are read back from their own bytes.
use Rattle.std.proofs.Common.{◌≡◌, ℕ, ◌<◌, Bool, List, [], ◌∷◌, Some, Result, Ok, Err, refl, sym, ◌∙◌, ap, subst, arith}
use Rattle.std.specs.Prelude.{All, Contains, ◌-◌, ◌^◌, option_map}
use Rattle.std.proofs.lemmas.List.{append-nil}
use Rattle.std.proofs.lemmas.List.Elements.{All-contains_itself, All-weaker}
use Rattle.std.proofs.lemmas.Option.{none-some}
use Rattle.types_codec.specs.declared.codec.CodecError.{CodecError}
use Rattle.types_codec.specs.Codec.{IsCodec, Readable}
use Rattle.types_codec.specs.Varint.{varint, varint_at, varint-IsCodec}
use Rattle.messages_certificates.specs.declared.artifact.Artifact.{Artifact}
use Rattle.messages_certificates.specs.declared.artifact.Artifact.TheVariants as artifact
use Rattle.messages_certificates.specs.declared.certificate.Certificate.{Certificate}
use Rattle.messages_certificates.specs.declared.certificate.Certificate.TheVariants as certificate
use Rattle.messages_certificates.specs.Artifact.{artifact-IsCodec, artifact_at, artifact_fits, artifact_spelling, artifact_within, certificate_artifact}
use Rattle.messages_certificates.specs.Certificate.{any_certificate_at, any_certificate_fits, any_certificate_spelling, any_certificate_within, any_certificate-IsCodec, certificate_round}
use Rattle.messages_certificates.specs.Nullification.{nullification_fits}
use Rattle.messages_certificates.specs.ProposalCertificate.{certificate_fits}
use Rattle.simplex_messages.specs.declared.vote.Vote.{Vote}
use Rattle.simplex_messages.specs.declared.vote.Vote.TheVariants as vote
use Rattle.simplex_messages.specs.Vote.{any_vote_at, any_vote_fits, any_vote_spelling, any_vote-IsCodec}
use Rattle.simplex_member.specs.declared.event.Channel.{Channel}
use Rattle.simplex_member.specs.declared.event.Channel.TheVariants as channel
use Rattle.simplex_member.specs.Laws.{AreReadBack, CanBeSent}
use Rattle.simplex_member.specs.Packet.{Formats, IsReadable, IsRecordable, Packet, formats, of_ask, of_certificate, of_vote, packet_channel, whole}
use Rattle.simplex_member.proofs.Entering.{mapped}
use Rattle.simplex_member.proofs.Lists.{some-is}

whole-is : {A : Type 0} (r : Result (A × List ℕ) CodecError) (x : A) → whole r ≡ Some x → r ≡ Ok (x, [])
whole-is {A} (Ok (y, [])) x is = ap (λ (z : A). Ok (z, [])) (some-is y x is)
whole-is (Ok (y, b ∷ rest)) x is = absurd (none-some x is)
whole-is (Err e) x is = absurd (none-some x is)

-- what is read of all the bytes is read of its own spelling
read-again : {A : Type 0} {Fits : A → Type 0} {spelling : A → List ℕ} {reading : List ℕ → Result (A × List ℕ) CodecError} → IsCodec Fits spelling reading → (bytes : List ℕ) (x : A) → whole (reading bytes) ≡ Some x → whole (reading (spelling x)) ≡ Some x
read-again {A} {Fits} {spelling} {reading} codec bytes x is =
    let took = codec.takes bytes x [] (whole-is (reading bytes) x is) in
    ap whole (subst (λ (l : List ℕ). reading l ≡ Ok (x, [])) (append-nil (spelling x)) (codec.again x [] took.1))

-- what can be read at all is read of its own spelling
read-whole : {A : Type 0} {Fits : A → Type 0} {spelling : A → List ℕ} {reading : List ℕ → Result (A × List ℕ) CodecError} → IsCodec Fits spelling reading → (x : A) → Fits x → whole (reading (spelling x)) ≡ Some x
read-whole {A} {Fits} {spelling} {reading} codec x fits = ap whole (subst (λ (l : List ℕ). reading l ≡ Ok (x, [])) (append-nil (spelling x)) (codec.again x [] fits))

-- under another form
mapped-again : {A B : Type 0} {Fits : A → Type 0} {spelling : A → List ℕ} {reading : List ℕ → Result (A × List ℕ) CodecError} (made : A → B) → IsCodec Fits spelling reading → ((x y : A) → made x ≡ made y → x ≡ y)
    → (bytes : List ℕ) (x : A) → option_map made (whole (reading bytes)) ≡ Some (made x) → option_map made (whole (reading (spelling x))) ≡ Some (made x)
mapped-again {A} {B} {Fits} {spelling} {reading} made codec one bytes x is =
    let of = mapped made (whole (reading bytes)) (made x) is in
    let same : of.x ≡ x = one of.x x of.gives in
    ap (option_map made) (read-again codec bytes x (of.is ∙ ap (λ (y : A). Some y) same))

-- what can be read at all is read of its own spelling, under another form
spelled-so : {A B : Type 0} {Fits : A → Type 0} {spelling : A → List ℕ} {reading : List ℕ → Result (A × List ℕ) CodecError} (made : A → B) → IsCodec Fits spelling reading
    → (x : A) → Fits x → option_map made (whole (reading (spelling x))) ≡ Some (made x)
spelled-so {A} {B} {Fits} {spelling} {reading} made codec x fits =
    ap (λ (r : Result (A × List ℕ) CodecError). option_map made (whole r)) (subst (λ (l : List ℕ). reading l ≡ Ok (x, [])) (append-nil (spelling x)) (codec.again x [] fits))

-- and what was read can be read
read-fits : {A B : Type 0} {Fits : A → Type 0} {spelling : A → List ℕ} {reading : List ℕ → Result (A × List ℕ) CodecError} (made : A → B) → IsCodec Fits spelling reading → ((x y : A) → made x ≡ made y → x ≡ y)
    → (bytes : List ℕ) (x : A) → option_map made (whole (reading bytes)) ≡ Some (made x) → Fits x
read-fits {A} {B} {Fits} {spelling} {reading} made codec one bytes x is =
    let of = mapped made (whole (reading bytes)) (made x) is in
    let same : of.x ≡ x = one of.x x of.gives in
    (codec.takes bytes x [] (whole-is (reading bytes) x (of.is ∙ ap (λ (y : A). Some y) same))).1

module _ {S D P G C : Type 0} where
  -- a certificate that fits its types is of a view of 64 bits
  view-fits : (Q : D → Type 0) (R : C → Type 0) (c : Certificate S D P G C) → any_certificate_fits Q R c → (certificate_round c).view < 2 ^ 64
  unfolding any_certificate_fits certificate_fits nullification_fits
  view-fits Q R (certificate.Notarization c) fits = omega (arith, fits.0.0.0.1)
  view-fits Q R (certificate.Nullification c) fits = omega (arith, fits.0.1)
  view-fits Q R (certificate.Finalization c) fits = omega (arith, fits.0.0.0.1)

  vote-is : (v u : Vote S D P G C) → of_vote v ≡ of_vote u → v ≡ u
  vote-is v u e = ap inside e
    where
      inside : Packet S D P G C → Vote S D P G C
      inside (of_vote x) = x
      inside (of_certificate c) = v
      inside (of_ask view) = v

  certificate-is : (c d : Certificate S D P G C) → of_certificate c ≡ of_certificate d → c ≡ d
  certificate-is c d e = ap inside e
    where
      inside : Packet S D P G C → Certificate S D P G C
      inside (of_vote x) = c
      inside (of_certificate x) = x
      inside (of_ask view) = c

  ask-is : (a b : ℕ) → ◌≡◌ {A = Packet S D P G C} (of_ask a) (of_ask b) → a ≡ b
  ask-is a b e = ap inside e
    where
      inside : Packet S D P G C → ℕ
      inside (of_vote x) = a
      inside (of_certificate x) = a
      inside (of_ask view) = view

  module _ (same : D → D → Bool) (p : D → List ℕ) (q : G → List ℕ) (r : C → List ℕ)
      (p_at : ℕ → List ℕ → Result (D × List ℕ) CodecError) (q_at : ℕ → List ℕ → Result (G × List ℕ) CodecError) (r_at : ℕ → List ℕ → Result (C × List ℕ) CodecError) (n : ℕ)
      (Q : D → Type 0) (F : G → Type 0) (R W : C → Type 0) (payloads : IsCodec Q p (p_at n)) (signatures : IsCodec F q (q_at n)) (certificates : IsCodec (Readable R W) r (r_at n)) where
    abbrev These : Formats S D P G C
    These = formats same p q r p_at q_at r_at n

    read-so : (x : Packet S D P G C) → IsReadable These x → These.packet_in (packet_channel x) (These.packet x) ≡ Some x
    read-so (of_vote v) readable = mapped-again {reading = any_vote_at (p_at n) (q_at n)} of_vote (any_vote-IsCodec payloads signatures) vote-is readable.0 v readable.1
    read-so (of_certificate c) readable = mapped-again {reading = any_certificate_at (p_at n) (r_at n)} of_certificate (any_certificate-IsCodec payloads certificates) certificate-is readable.0 c readable.1
    read-so (of_ask view) readable = mapped-again {reading = varint_at (2 ^ 64 - 1)} of_ask (varint-IsCodec (2 ^ 64 - 1)) ask-is readable.0 view readable.1

    by-channel : (by : Channel) (bytes : List ℕ) (x : Packet S D P G C) → These.packet_in by bytes ≡ Some x → packet_channel x ≡ by
    by-channel channel.Votes bytes x is = let of = mapped of_vote (whole (any_vote_at (p_at n) (q_at n) bytes)) x is in sym (ap packet_channel of.gives)
    by-channel channel.Certificates bytes x is = let of = mapped of_certificate (whole (any_certificate_at (p_at n) (r_at n) bytes)) x is in sym (ap packet_channel of.gives)
    by-channel channel.Fetches bytes x is = let of = mapped of_ask (whole (varint_at (2 ^ 64 - 1) bytes)) x is in sym (ap packet_channel of.gives)

    views : (c : Certificate S D P G C) → IsReadable These (of_certificate c) → (certificate_round c).view < 2 ^ 64
    views c readable = view-fits Q R c (read-fits {reading = any_certificate_at (p_at n) (r_at n)} of_certificate (any_certificate-IsCodec payloads certificates) certificate-is readable.0 c readable.1).0

    asks : (view : ℕ) → view < 2 ^ 64 → IsReadable These (of_ask view)
    asks view small = (varint view, spelled-so {reading = varint_at (2 ^ 64 - 1)} of_ask (varint-IsCodec (2 ^ 64 - 1)) view (omega (arith, small)))

    vote-sent : (v : Vote S D P G C) → any_vote_fits Q F v → IsReadable These (of_vote v)
    vote-sent v fits = (any_vote_spelling p q v, spelled-so {reading = any_vote_at (p_at n) (q_at n)} of_vote (any_vote-IsCodec payloads signatures) v fits)

    certificate-sent : (c : Certificate S D P G C) → Readable (any_certificate_fits Q R) (any_certificate_within W) c → IsReadable These (of_certificate c)
    certificate-sent c fits = (any_certificate_spelling p r c, spelled-so {reading = any_certificate_at (p_at n) (r_at n)} of_certificate (any_certificate-IsCodec payloads certificates) c fits)

    -- an artifact that can be read under the bound of the packets can be read as one
    pub can-be-sent : CanBeSent (Readable (artifact_fits Q F R) (artifact_within W)) These
    unfolding artifact_fits artifact_within any_vote_fits any_certificate_fits any_certificate_within
    can-be-sent (artifact.Notarize v) fits = vote-sent (vote.Notarize v) fits.0
    can-be-sent (artifact.Notarization c) fits = certificate-sent (certificate.Notarization c) fits
    can-be-sent (artifact.Certification round ok) fits = tt
    can-be-sent (artifact.Nullify v) fits = vote-sent (vote.Nullify v) fits.0
    can-be-sent (artifact.Nullification c) fits = certificate-sent (certificate.Nullification c) fits
    can-be-sent (artifact.Finalize v) fits = vote-sent (vote.Finalize v) fits.0
    can-be-sent (artifact.Finalization c) fits = certificate-sent (certificate.Finalization c) fits

    -- what can be recorded can be read under the bound of the packets
    recorded-fits : (x : Artifact S D P G C) → IsRecordable These x → Readable (artifact_fits Q F R) (artifact_within W) x
    recorded-fits x readable =
        ((artifact-IsCodec payloads signatures certificates).takes readable.0 x [] (whole-is (artifact_at (p_at n) (q_at n) (r_at n) readable.0) x readable.1)).1

    -- and what can be read so can be recorded
    pub recordable : (x : Artifact S D P G C) → Readable (artifact_fits Q F R) (artifact_within W) x → IsRecordable These x
    recordable x fits = (artifact_spelling p q r x, read-whole (artifact-IsCodec payloads signatures certificates) x fits)

    certificate-kept : (c : Certificate S D P G C) → Readable (any_certificate_fits Q R) (any_certificate_within W) c → Readable (artifact_fits Q F R) (artifact_within W) (certificate_artifact c)
    unfolding artifact_fits artifact_within any_certificate_fits any_certificate_within
    certificate-kept (certificate.Notarization c) fits = fits
    certificate-kept (certificate.Nullification c) fits = fits
    certificate-kept (certificate.Finalization c) fits = fits

    taken : (c : Certificate S D P G C) → IsReadable These (of_certificate c) → IsRecordable These (certificate_artifact c)
    taken c readable =
        recordable (certificate_artifact c)
        (certificate-kept c (read-fits {reading = any_certificate_at (p_at n) (r_at n)} of_certificate (any_certificate-IsCodec payloads certificates) certificate-is readable.0 c readable.1))

    pub read-back : AreReadBack These
    read-back = record {
      by_channel = by-channel;
      again = read-so;
      certificates = λ c. refl;
      views = views;
      asks = asks;
      recorded = λ x readable. can-be-sent x (recorded-fits x readable);
      taken = taken;
    }

    within-more : (V : C → Type 0) → ((c : C) → W c → V c) → (y : Artifact S D P G C) → artifact_within W y → artifact_within V y
    unfolding artifact_within
    within-more V more (artifact.Notarize v) within = within
    within-more V more (artifact.Notarization c) within = more c.certificate within
    within-more V more (artifact.Certification round ok) within = within
    within-more V more (artifact.Nullify v) within = within
    within-more V more (artifact.Nullification c) within = more c.certificate within
    within-more V more (artifact.Finalize v) within = within
    within-more V more (artifact.Finalization c) within = more c.certificate within

    -- the disk takes for an artifact what can be recorded, where it reads under no smaller bound
    recorded-on-disk : (V : C → Type 0) → ((c : C) → W c → V c) → (x : Artifact S D P G C) → IsRecordable These x → Readable (artifact_fits Q F R) (artifact_within V) x
    recorded-on-disk V more x readable = let fits = recorded-fits x readable in (fits.0, within-more V more x fits.1)

    -- so it is of all artifacts of a list
    pub all-on-disk : (V : C → Type 0) → ((c : C) → W c → V c) → (xs : List (Artifact S D P G C)) → ((x : Artifact S D P G C) → Contains xs x → IsRecordable These x) → All (Readable (artifact_fits Q F R) (artifact_within V)) xs
    all-on-disk V more xs each = All-weaker (Contains xs) (Readable (artifact_fits Q F R) (artifact_within V)) (λ x here. recorded-on-disk V more x (each x here)) xs (All-contains_itself xs)
