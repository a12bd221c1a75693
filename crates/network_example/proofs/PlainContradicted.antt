-- The plain scheme has all that the example of contradictory certificates asks of one.
use Rattle.std.proofs.Common.{◌≡◌, ◌≢◌, ℕ, ◌<◌, ◌≤◌, List, [], ◌∷◌, length, refl, arith}
use Rattle.std.specs.Prelude.{All, Contains}
use Rattle.std.specs.declared.cmp.Ordering.{Ordering}
use Rattle.std.proofs.lemmas.List.Elements.{All-cons, All-contains, All-nil}
use Rattle.sha2.proofs.Facts256.{length-sha256}
use Rattle.types_codec.specs.Codec.{Readable}
use Rattle.types_core.specs.declared.attestation.Attestation.{Attestation}
use Rattle.types_core.specs.declared.scheme.Scheme.{Ghosts}
use Rattle.types_core.specs.Attestation.{attestation_fits}
use Rattle.types_core.specs.Quorum.{IsQuorum, IsQuorum-from_ascending}
use Rattle.types_core.specs.Subject.{Statement, finalize, nullify}
use Rattle.simplex_types.specs.AttestationList.{list_fits, list_within}
use Rattle.simplex_types.specs.Plain.{Attests, Committee, hashed}
use Rattle.messages_certificates.specs.declared.artifact.Artifact.{Artifact}
use Rattle.messages_certificates.specs.declared.artifact.Artifact.TheVariants as artifact
use Rattle.messages_certificates.specs.declared.certificate.Certificate.TheVariants as certificate
use Rattle.messages_certificates.specs.Artifact.{artifact_fits, artifact_within}
use Rattle.messages_certificates.specs.Nullification.{nullification_fits}
use Rattle.messages_certificates.specs.ProposalCertificate.{certificate_fits}
use Rattle.simplex_member.specs.declared.event.Event.{Event}
use Rattle.simplex_member.specs.Laws.{AreReadBack, CanBeSent}
use Rattle.simplex_member.specs.Packet.{Formats, IsRecordable, of_certificate}
use Rattle.network_example.specs.Contradicted.{AreForged, ContradictionsAreNamed, Forged, agreed_on, finalization, nullification, second}
use Rattle.network_example.specs.Plain.{member_of_four}
use Rattle.network_example.specs.PlainContradicted.{PlainContradictionsAreNamed, by_three, plain_forged, stated_by}

abbrev IsSignature : List ℕ → Type 0
IsSignature bytes = length bytes ≡ 32

module _ {D : Type 0} (payload : D → List ℕ) (base : List ℕ) (t : Statement D) where
  abbrev Signed : ℕ → List ℕ → Type 0
  Signed i a = Attests payload base 4 i t a

  three-of : (P : Attestation (List ℕ) → Type 0) → ((i : ℕ) → 1 ≤ i → i < 4 → P (stated_by payload base t i)) → All P (by_three payload base t)
  three-of P each = All-cons P (stated_by payload base t 1) (stated_by payload base t 2 ∷ stated_by payload base t 3 ∷ []) (each 1 (omega arith) (omega arith))
      (All-cons P (stated_by payload base t 2) (stated_by payload base t 3 ∷ []) (each 2 (omega arith) (omega arith)) (All-cons P (stated_by payload base t 3) [] (each 3 (omega arith) (omega arith)) (All-nil P)))

  signed : (i : ℕ) → i < 4 → Signed i (stated_by payload base t i).signature
  signed i small = (omega (arith, small), refl)

  -- the three are a quorum, and none of them is the first member
  pub certified : IsQuorum 4 (λ i a. Signed i a) (by_three payload base t)
  certified = IsQuorum-from_ascending 4 (λ i a. Signed i a) (by_three payload base t) (λ i a is. is.0) (omega arith, (omega arith, (omega arith, tt))) (omega arith)
      (three-of (λ a. Signed a.signer a.signature) (λ i some small. signed i small))

  pub not-first : (a : Attestation (List ℕ)) → Contains (by_three payload base t) a → a.signer ≢ 0
  not-first a here = λ is. let some : 1 ≤ a.signer = All-contains (λ (b : Attestation (List ℕ)). 1 ≤ b.signer) (by_three payload base t) a (three-of (λ b. 1 ≤ b.signer) (λ i low small. low)) here in omega (arith, is, some)

  fits : (i : ℕ) → i < 4 → attestation_fits IsSignature (stated_by payload base t i)
  fits i small = (omega (arith, small), length-sha256 (hashed payload base i t))

  -- their certificate can be spelled, and read in a committee of four
  pub packed-fits : list_fits IsSignature (by_three payload base t)
  unfolding list_fits
  packed-fits = (three-of (λ a. attestation_fits IsSignature a) (λ i some small. fits i small), (omega arith, (omega arith, (omega arith, tt))), omega arith)

  pub packed-within : list_within 4 (by_three payload base t)
  unfolding list_within
  packed-within = (three-of (λ a. a.signer < 4) (λ i some small. small), omega arith)

module _ {D P : Type 0} (g : Ghosts Committee D P (List ℕ) (List (Attestation (List ℕ)))) (f : Formats Committee D P (List ℕ) (List (Attestation (List ℕ)))) (payload : D → List ℕ) (Q : D → Type 0) where
  nullified-fits : (x : Forged Committee D (List (Attestation (List ℕ)))) → list_fits IsSignature x.given_up → list_within 4 x.given_up
      → Readable (artifact_fits {S = Committee} {D = D} {P = P} {G = List ℕ} {C = List (Attestation (List ℕ))} Q IsSignature (list_fits IsSignature)) (artifact_within (list_within 4)) (artifact.Nullification (nullification x))
  unfolding artifact_fits artifact_within nullification_fits
  nullified-fits x fits within = (((omega arith, omega arith), fits), within)

  finalized-fits : (x : Forged Committee D (List (Attestation (List ℕ)))) → Q x.payload → list_fits IsSignature x.agreed → list_within 4 x.agreed
      → Readable (artifact_fits {S = Committee} {D = D} {P = P} {G = List ℕ} {C = List (Attestation (List ℕ))} Q IsSignature (list_fits IsSignature)) (artifact_within (list_within 4)) (artifact.Finalization (finalization x))
  unfolding artifact_fits artifact_within certificate_fits
  finalized-fits x payload_fits fits within = (((((omega arith, omega arith), omega arith), payload_fits), fits), within)

  pub plain-named : (cmp : D → D → Ordering) → ContradictionsAreNamed g f cmp
      → ((base : List ℕ) (genesis agreed : D) (final null : Event D) → AreForged g f (member_of_four base 0) (plain_forged payload base genesis agreed final null))
      → AreReadBack f → CanBeSent (Readable (artifact_fits Q IsSignature (list_fits IsSignature)) (artifact_within (list_within 4))) f
      → ((y : Artifact Committee D P (List ℕ) (List (Attestation (List ℕ)))) → Readable (artifact_fits Q IsSignature (list_fits IsSignature)) (artifact_within (list_within 4)) y → IsRecordable f y)
      → PlainContradictionsAreNamed g f cmp payload Q
  plain-named cmp law keys back sent kept base genesis agreed final null payload_fits final_is null_is =
      let x = plain_forged payload base genesis agreed final null in
      law (member_of_four base 0) x (keys base genesis agreed final null)
      (record {
        bytes = final_is;
        read = back.again (of_certificate (certificate.Finalization (finalization x))) (sent (artifact.Finalization (finalization x)) (finalized-fits x payload_fits (packed-fits payload base (finalize (agreed_on x))) (packed-within payload base (finalize (agreed_on x)))));
        kept = kept (artifact.Finalization (finalization x)) (finalized-fits x payload_fits (packed-fits payload base (finalize (agreed_on x))) (packed-within payload base (finalize (agreed_on x))));
      })
      (record {
        bytes = null_is;
        read = back.again (of_certificate (certificate.Nullification (nullification x))) (sent (artifact.Nullification (nullification x)) (nullified-fits x (packed-fits payload base (nullify second)) (packed-within payload base (nullify second))));
        kept = kept (artifact.Nullification (nullification x)) (nullified-fits x (packed-fits payload base (nullify second)) (packed-within payload base (nullify second)));
      })
