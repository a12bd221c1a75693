-- The plain scheme has all that the example of a committee of one asks of it.
use Rattle.std.proofs.Common.{◌≡◌, ℕ, ◌+◌, ◌<◌, true, List, [], ◌∷◌, length, refl, arith}
use Rattle.std.specs.Prelude.{Contains}
use Rattle.std.specs.declared.vec.Vec.{Vec}
use Rattle.std.specs.declared.alloc.Global.{Global}
use Rattle.std.proofs.lemmas.List.Elements.{All-cons, All-contains, All-nil}
use Rattle.sha2.proofs.Facts256.{length-sha256}
use Rattle.types_codec.specs.Codec.{Readable}
use Rattle.types_core.specs.declared.attestation.Attestation.{Attestation}
use Rattle.types_core.specs.declared.scheme.Scheme.{Ghosts}
use Rattle.types_core.specs.Attestation.{attestation_fits}
use Rattle.types_core.specs.Proposal.{proposal_fits}
use Rattle.types_core.specs.Quorum.{IsQuorum, IsQuorum-from_ascending}
use Rattle.types_core.specs.Subject.{Statement, finalize, notarize}
use Rattle.simplex_types.specs.AttestationList.{list_fits, list_within}
use Rattle.simplex_types.specs.Plain.{Attests, Committee, hashed}
use Rattle.messages_certificates.specs.declared.artifact.Artifact.{Artifact}
use Rattle.messages_certificates.specs.Artifact.{artifact_fits, artifact_within}
use Rattle.messages_certificates.specs.ProposalCertificate.{certificate_fits}
use Rattle.simplex_member.specs.Packet.{Formats, IsRecordable}
use Rattle.network_example.specs.Finalized.{IsLone, TwoViewsAreFinalized, recorded_behind}
use Rattle.network_example.specs.PlainFinalized.{PlainViewsAreFinalized, member_of_one, own_attestation, plain_lone, plain_proposal}
use Rattle.network_example.proofs.Rules.{Each, each}

abbrev IsSignature : List ℕ → Type 0
IsSignature bytes = length bytes ≡ 32

module _ {D : Type 0} (spelling : D → List ℕ) (base : List ℕ) (payload : ℕ → D) (t : Statement D) where
  abbrev own : Attestation (List ℕ)
  own = own_attestation spelling base payload t

  abbrev Signed : ℕ → List ℕ → Type 0
  Signed i a = Attests spelling base 1 i t a

  pub signed : Signed 0 own.signature
  signed = (omega arith, refl)

  -- the one is a quorum
  pub certified : IsQuorum 1 (λ i a. Signed i a) (own ∷ [])
  certified = IsQuorum-from_ascending 1 (λ i a. Signed i a) (own ∷ []) (λ i a is. is.0) (omega arith, tt) (omega arith)
      (All-cons (λ (a : Attestation (List ℕ)). Signed a.signer a.signature) own [] signed (All-nil (λ (a : Attestation (List ℕ)). Signed a.signer a.signature)))

  -- it can be spelled, and so can the certificate
  pub fits : attestation_fits IsSignature own
  fits = (omega arith, length-sha256 (hashed spelling base 0 t))

  pub packed-fits : list_fits IsSignature (own ∷ [])
  unfolding list_fits
  packed-fits = (All-cons (λ (a : Attestation (List ℕ)). attestation_fits IsSignature a) own [] fits (All-nil (λ (a : Attestation (List ℕ)). attestation_fits IsSignature a)), (omega arith, tt), omega arith)

  pub packed-within : list_within 1 (own ∷ [])
  unfolding list_within
  packed-within = (All-cons (λ (a : Attestation (List ℕ)). a.signer < 1) own [] (omega arith) (All-nil (λ (a : Attestation (List ℕ)). a.signer < 1)), omega arith)

module _ {D P : Type 0} (g : Ghosts Committee D P (List ℕ) (List (Attestation (List ℕ)))) (f : Formats Committee D P (List ℕ) (List (Attestation (List ℕ)))) (spelling : D → List ℕ) (Q : D → Type 0) (base : List ℕ) (payload : ℕ → D) (nobody : Vec ℕ Global) where
  abbrev CanBeRead : Artifact Committee D P (List ℕ) (List (Attestation (List ℕ))) → Type 0
  CanBeRead y = Readable (artifact_fits {S = Committee} {D = D} {P = P} {G = List ℕ} {C = List (Attestation (List ℕ))} Q IsSignature (list_fits IsSignature)) (artifact_within (list_within 1)) y

  -- all that is recorded of a view can be read
  recorded-fits : ((view : ℕ) → Q (payload view)) → (view : ℕ) → view < 2 → Each CanBeRead (recorded_behind g (plain_lone spelling base payload nobody) view [])
  unfolding artifact_fits artifact_within certificate_fits
  recorded-fits payload_fits view low =
      let p = plain_proposal spelling base payload view in
      let spelled : proposal_fits Q p = (((omega arith, omega (arith, low)), omega (arith, low)), payload_fits (view + 1)) in (
        ((spelled, fits spelling base payload (notarize p)), tt),
        (
          ((spelled, packed-fits spelling base payload (notarize p)), packed-within spelling base payload (notarize p)),
          (
            (((omega arith, omega (arith, low)), tt), tt),
            (
              ((spelled, fits spelling base payload (finalize p)), tt),
              (((spelled, packed-fits spelling base payload (finalize p)), packed-within spelling base payload (finalize p)), tt),
            ),
          ),
        ),
      )

  pub can-be-kept : ((view : ℕ) → Q (payload view)) → ((y : Artifact Committee D P (List ℕ) (List (Attestation (List ℕ)))) → CanBeRead y → IsRecordable f y)
      → (view : ℕ) → view < 2 → (y : Artifact Committee D P (List ℕ) (List (Attestation (List ℕ)))) → Contains (recorded_behind g (plain_lone spelling base payload nobody) view []) y → IsRecordable f y
  can-be-kept payload_fits kept view low y here =
      kept y (All-contains CanBeRead (recorded_behind g (plain_lone spelling base payload nobody) view []) y (each CanBeRead (recorded_behind g (plain_lone spelling base payload nobody) view []) (recorded-fits payload_fits view low)) here)

-- the example is there, where the scheme has its keys, payloads are equal to themselves, and packets are read as the messages spell them
pub plain-finalized : {D P : Type 0} (g : Ghosts Committee D P (List ℕ) (List (Attestation (List ℕ)))) (f : Formats Committee D P (List ℕ) (List (Attestation (List ℕ)))) (spelling : D → List ℕ) (Q : D → Type 0) → TwoViewsAreFinalized g f
    → ((base : List ℕ) (payload : ℕ → D) (nobody : Vec ℕ Global) → nobody.items ≡ [] → IsLone g (plain_lone spelling base payload nobody) (member_of_one base))
    → ((payload : D) → f.same payload payload ≡ true)
    → ((y : Artifact Committee D P (List ℕ) (List (Attestation (List ℕ)))) → Readable (artifact_fits Q IsSignature (list_fits IsSignature)) (artifact_within (list_within 1)) y → IsRecordable f y)
    → PlainViewsAreFinalized g f spelling Q
plain-finalized g f spelling Q law lone same kept base payload nobody fits none =
    law (member_of_one base) (plain_lone spelling base payload nobody) (lone base payload nobody none)
    (record { same = λ view. same (payload view); kept = can-be-kept g f spelling Q base payload nobody fits kept })
