-- The plain scheme has all that the example asks of one.
use Rattle.std.proofs.Common.{◌≡◌, ℕ, ◌<◌, List, [], ◌∷◌, length, None, Result, refl, sym, subst, arith}
use Rattle.std.specs.Prelude.{All}
use Rattle.std.proofs.lemmas.List.Elements.{All-cons, All-nil}
use Rattle.sha2.proofs.Facts256.{length-sha256}
use Rattle.types_codec.specs.declared.codec.CodecError.{CodecError}
use Rattle.types_codec.specs.Codec.{Readable}
use Rattle.types_core.specs.declared.attestation.Attestation.{Attestation}
use Rattle.types_core.specs.declared.scheme.Scheme.{Ghosts}
use Rattle.types_core.specs.Attestation.{attestation_fits}
use Rattle.simplex_types.specs.AttestationList.{list_fits, list_within}
use Rattle.simplex_types.specs.Plain.{Attests, Committee, hashed}
use Rattle.types_core.specs.Quorum.{IsQuorum, IsQuorum-from_ascending}
use Rattle.types_core.specs.Subject.{nullify}
use Rattle.messages_certificates.specs.declared.artifact.Artifact.{Artifact}
use Rattle.messages_certificates.specs.declared.artifact.Artifact.TheVariants as artifact
use Rattle.messages_certificates.specs.Artifact.{artifact_fits, artifact_within}
use Rattle.messages_certificates.specs.Nullification.{nullification_fits}
use Rattle.simplex_messages.specs.Vote.{any_vote_at}
use Rattle.simplex_member.specs.declared.event.Channel.{Channel}
use Rattle.simplex_member.specs.declared.event.Channel.TheVariants as channel
use Rattle.simplex_member.specs.declared.event.Event.{Event}
use Rattle.simplex_member.specs.declared.event.Event.TheVariants as event
use Rattle.simplex_member.specs.Laws.{AreReadBack, CanBeSent}
use Rattle.simplex_member.specs.Packet.{Formats, IsRecordable, of_certificate, whole}
use Rattle.network_example.specs.Example.{AreKeys, IsJunk, IsOfBytes, NetworksAreThere, first, given_up, nullification_of, nullify_of}
use Rattle.network_example.specs.Plain.{PlainNetworksAreThere, attested_by, member_of_four, plain_parts}

abbrev IsSignature : List ℕ → Type 0
IsSignature bytes = length bytes ≡ 32

-- no vote is read of no bytes
pub none-read : {S D P G C : Type 0} (q : List ℕ → Result (D × List ℕ) CodecError) (r : List ℕ → Result (G × List ℕ) CodecError) → whole (any_vote_at {S = S} {D = D} {P = P} {G = G} {C = C} q r []) ≡ None
unfolding any_vote_at
none-read q r = refl

module _ {D : Type 0} (payload : D → List ℕ) (base : List ℕ) where
  abbrev Signed : ℕ → List ℕ → Type 0
  Signed i a = Attests payload base 4 i (nullify first) a

  abbrev packed : List (Attestation (List ℕ))
  packed = attested_by payload base 0 ∷ attested_by payload base 1 ∷ attested_by payload base 2 ∷ []

  three-of : (P : Attestation (List ℕ) → Type 0) → ((i : ℕ) → i < 3 → P (attested_by payload base i)) → All P packed
  three-of P each = All-cons P (attested_by payload base 0) (attested_by payload base 1 ∷ attested_by payload base 2 ∷ []) (each 0 (omega arith))
      (All-cons P (attested_by payload base 1) (attested_by payload base 2 ∷ []) (each 1 (omega arith)) (All-cons P (attested_by payload base 2) [] (each 2 (omega arith)) (All-nil P)))

  pub signed : (i : ℕ) → i < 3 → Signed i (attested_by payload base i).signature
  signed i small = (omega (arith, small), refl)

  -- the three are a quorum
  pub certified : IsQuorum 4 (λ i a. Signed i a) packed
  certified = IsQuorum-from_ascending 4 (λ i a. Signed i a) packed (λ i a is. is.0) (omega arith, (omega arith, (omega arith, tt))) (omega arith)
      (three-of (λ a. Signed a.signer a.signature) (λ i small. signed i small))

  fits : (i : ℕ) → i < 3 → attestation_fits IsSignature (attested_by payload base i)
  fits i small = (omega (arith, small), length-sha256 (hashed payload base i (nullify first)))

  -- they can be spelled, and so can each nullify
  pub certificate-fits : (S P : Type 0) (Q : D → Type 0) → Readable (artifact_fits {S = S} {D = D} {P = P} {G = List ℕ} {C = List (Attestation (List ℕ))} Q IsSignature (list_fits IsSignature)) (artifact_within (list_within 4)) (artifact.Nullification (nullification_of packed))
  unfolding artifact_fits artifact_within nullification_fits list_fits list_within
  certificate-fits S P Q = (
    ((omega arith, omega arith), (three-of (λ a. attestation_fits IsSignature a) fits, (omega arith, (omega arith, (omega arith, tt))), omega arith)),
    (three-of (λ a. a.signer < 4) (λ i small. omega (arith, small)), omega arith),
  )

  pub nullify-fits : (S P : Type 0) (Q : D → Type 0) (i : ℕ) → i < 3 → Readable (artifact_fits {S = S} {D = D} {P = P} {G = List ℕ} {C = List (Attestation (List ℕ))} Q IsSignature (list_fits IsSignature)) (artifact_within (list_within 4))
      (artifact.Nullify (nullify_of (λ j. (attested_by payload base j).signature) i))
  unfolding artifact_fits artifact_within
  nullify-fits S P Q i small = (((omega arith, omega arith), fits i small), tt)

-- a packet of no bytes for a vote is one that can't be read
junk-unread : {S D P G C : Type 0} (g : Ghosts S D P G C) (f : Formats S D P G C) → f.packet_in channel.Votes [] ≡ None → (e : Event D) → IsOfBytes e 3 channel.Votes [] → IsJunk g f e
junk-unread g f unread (event.Packet from by bytes) is =
    (is.0, subst (λ (c : Channel). f.packet_in c bytes.items ≡ None) (sym is.1) (subst (λ (l : List ℕ). f.packet_in channel.Votes l ≡ None) (sym is.2) unread))
junk-unread g f unread e is = absurd is

-- the example is there, where the scheme has its keys, and packets are read as the messages spell them
pub plain-network : {D P : Type 0} (g : Ghosts Committee D P (List ℕ) (List (Attestation (List ℕ)))) (f : Formats Committee D P (List ℕ) (List (Attestation (List ℕ)))) (payload : D → List ℕ) (Q : D → Type 0)
    → NetworksAreThere g f
    → ((base : List ℕ) (genesis : D) (junk : Event D) (handed : ℕ → Event D) → AreKeys g f (member_of_four base 0) (plain_parts payload base genesis junk handed))
    → f.packet_in channel.Votes [] ≡ None → AreReadBack f → CanBeSent (Readable (artifact_fits Q IsSignature (list_fits IsSignature)) (artifact_within (list_within 4))) f
    → ((x : Artifact Committee D P (List ℕ) (List (Attestation (List ℕ)))) → Readable (artifact_fits Q IsSignature (list_fits IsSignature)) (artifact_within (list_within 4)) x → IsRecordable f x)
    → PlainNetworksAreThere g f payload
plain-network g f payload Q law keys unread back sent kept base genesis junk handed none these =
    let x = plain_parts payload base genesis junk handed in
    law (member_of_four base 0) x (keys base genesis junk handed) (record {
      junk = junk-unread g f unread junk none;
      handed = these;
      read = back.again (of_certificate (given_up x)) (sent (artifact.Nullification (nullification_of x.packed)) (certificate-fits payload base _ _ Q));
      recordable = λ i small. kept (artifact.Nullify (nullify_of x.signed i)) (nullify-fits payload base _ _ Q i small);
      certificate_recordable = kept (artifact.Nullification (nullification_of x.packed)) (certificate-fits payload base _ _ Q);
    })
