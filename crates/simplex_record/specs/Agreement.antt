-- Agreement: what no two certificates of a world do.
use Rattle.std.specs.Prelude.{◌≡◌, ℕ, ◌<◌, List}
use Rattle.types_core.specs.declared.attestation.Attestation.{Attestation}
use Rattle.types_core.specs.declared.proposal.Proposal.{Proposal}
use Rattle.types_core.specs.Positions.{InCoveringRange}
use Rattle.types_core.specs.Subject.{Statement}
use Rattle.messages_certificates.specs.declared.certificate.Certificate.{Certificate}
use Rattle.messages_certificates.specs.declared.certificate.Certificate.TheVariants as certificate
use Rattle.messages_certificates.specs.declared.nullification.Nullification.{Nullification}
use Rattle.messages_certificates.specs.ProposalCertificate.{Notarization, Finalization}
use Rattle.simplex_record.specs.World.{World, IsSound}

module _ {S D P G C : Type 0} where
  -- the certificate is a notarization or a finalization of the proposal
  abbrev pub IsFor : Certificate S D P G C → Proposal D → Type 0
  IsFor (certificate.Notarization c) p = c.proposal ≡ p
  IsFor (certificate.Nullification c) p = ⊥
  IsFor (certificate.Finalization c) p = c.proposal ≡ p

  module _ (attests : ℕ → Statement D → G → Type 0) (lists : C → List (Attestation G)) (world : World S D P G C) where
    -- one proposal a view: no view has notarizations or finalizations, in any mixture, for two proposals
    abbrev pub OneProposalAView : Type 0
    OneProposalAView = (c d : Certificate S D P G C) (p q : Proposal D) → IsSound attests lists world c → IsSound attests lists world d
        → IsFor c p → IsFor d q → p.round.view ≡ q.round.view → p ≡ q

    -- no finalized view is nullified, nor is an earlier view of its term
    abbrev pub NoFinalizedViewNullified : Type 0
    NoFinalizedViewNullified = (c : Finalization S D P G C) (d : Nullification S D P G C) → IsSound attests lists world (certificate.Finalization c) → IsSound attests lists world (certificate.Nullification d)
        → InCoveringRange world.term_length c.proposal.round.view d.round.view → ⊥

    -- no finalized view is skipped: no notarized proposal stands above it with a parent below it
    abbrev pub NoFinalizedViewSkipped : Type 0
    NoFinalizedViewSkipped = (c : Finalization S D P G C) (d : Notarization S D P G C) → IsSound attests lists world (certificate.Finalization c) → IsSound attests lists world (certificate.Notarization d)
        → d.proposal.parent < c.proposal.round.view → c.proposal.round.view < d.proposal.round.view → ⊥
