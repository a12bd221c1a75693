-- What members agree on: statements, over all verifying certificates that one of them was handed, or made, or that stand elsewhere.
use Rattle.std.specs.Prelude.{◌≡◌, ◌<◌, ◌≤◌, List}
use Rattle.types_core.specs.declared.proposal.Proposal.{Proposal}
use Rattle.types_core.specs.declared.scheme.Scheme.{Ghosts}
use Rattle.types_core.specs.Positions.{InCoveringRange}
use Rattle.messages_certificates.specs.declared.certificate.Certificate.{Certificate}
use Rattle.messages_certificates.specs.declared.certificate.Certificate.TheVariants as certificate
use Rattle.messages_certificates.specs.declared.nullification.Nullification.{Nullification}
use Rattle.messages_certificates.specs.ProposalCertificate.{Notarization, Finalization}
use Rattle.simplex_record.specs.Agreement.{IsFor}
use Rattle.simplex_record.specs.Chain.{LeadDown}
use Rattle.simplex_record.specs.World.{World, IsSound}
use Rattle.simplex_member.specs.Lives.{AtMostFLie, LiveByNodes, Members}
use Rattle.simplex_member.specs.Packet.{Formats}
use Rattle.simplex_network.specs.Network.{HaveOneElector, IsSeen}

module _ {S D P G C : Type 0} (g : Ghosts S D P G C) (f : Formats S D P G C) where
  -- each is sound, however many are excused: it lists attestations of a quorum, and each in a member's name is on what that member recorded
  -- a vote for
  abbrev pub AllAreSound : Type 0
  AllAreSound = (scheme : S) (m : Members S D P G C) (world : World S D P G C) → LiveByNodes g f scheme m world
      → (c : Certificate S D P G C) → IsSeen g f scheme m world c → IsSound (g.attests scheme) g.lists world c

  -- no view is certified for two proposals, by notarizations or finalizations, in any mixture
  abbrev pub NoViewHasTwoProposals : Type 0
  NoViewHasTwoProposals = (scheme : S) (m : Members S D P G C) (world : World S D P G C) → LiveByNodes g f scheme m world → AtMostFLie world
      → (c d : Certificate S D P G C) (p q : Proposal D) → IsSeen g f scheme m world c → IsSeen g f scheme m world d → IsFor c p → IsFor d q
      → p.round.view ≡ q.round.view → p ≡ q

  -- no finalized view is nullified, nor is an earlier view of its term
  abbrev pub NoFinalizedViewIsNullified : Type 0
  NoFinalizedViewIsNullified = (scheme : S) (m : Members S D P G C) (world : World S D P G C) → LiveByNodes g f scheme m world
      → AtMostFLie world
      → (c : Finalization S D P G C) (d : Nullification S D P G C) → IsSeen g f scheme m world (certificate.Finalization c)
      → IsSeen g f scheme m world (certificate.Nullification d)
      → InCoveringRange world.term_length c.proposal.round.view d.round.view → ⊥

  -- no notarized proposal skips a finalized view: none stands above it with a parent below it
  abbrev pub NoFinalizedViewIsSkipped : Type 0
  NoFinalizedViewIsSkipped = (scheme : S) (m : Members S D P G C) (world : World S D P G C) → LiveByNodes g f scheme m world
      → AtMostFLie world
      → (c : Finalization S D P G C) (d : Notarization S D P G C) → IsSeen g f scheme m world (certificate.Finalization c)
      → IsSeen g f scheme m world (certificate.Notarization d)
      → d.proposal.parent < c.proposal.round.view → c.proposal.round.view < d.proposal.round.view → ⊥

  -- by one elector, finalized views lie on one chain: from each finalized proposal the parents lead down to each that is finalized of a view
  -- no higher
  abbrev pub FinalizedViewsLieOnOneChain : Type 0
  FinalizedViewsLieOnOneChain = (scheme : S) (m : Members S D P G C) (world : World S D P G C) → LiveByNodes g f scheme m world
      → AtMostFLie world → HaveOneElector g f scheme m world
      → (c d : Finalization S D P G C) → IsSeen g f scheme m world (certificate.Finalization c)
      → IsSeen g f scheme m world (certificate.Finalization d)
      → d.proposal.round.view ≤ c.proposal.round.view
      → (path : List (Proposal D)) × LeadDown (g.attests scheme) g.lists world c.proposal path d.proposal
