-- One chain: from a finalized view the parents of proposals lead down to every lower finalized view. And what a member's
-- run supplies for it, beyond the rules.
use Rattle.std.specs.Prelude.{◌≡◌, ◌⊎◌, ℕ, ◌≤◌, ◌<◌, true, false, List, [], ◌∷◌, Contains, Option, Some, ⊤}
use Rattle.types_core.specs.declared.attestation.Attestation.{Attestation}
use Rattle.types_core.specs.declared.position.Round.{Round}
use Rattle.types_core.specs.declared.proposal.Proposal.{Proposal}
use Rattle.types_core.specs.Positions.{IsTermStart}
use Rattle.types_core.specs.Subject.{Statement, notarize, nullify, finalize}
use Rattle.messages_certificates.specs.declared.artifact.Artifact.TheVariants as artifact
use Rattle.messages_certificates.specs.declared.certificate.Certificate.TheVariants as certificate
use Rattle.messages_certificates.specs.ProposalCertificate.{Notarization, Finalization}
use Rattle.simplex_record.specs.Record.{Entry, voted, taken, judged, entries, HasVoted, HasTaken, HasJudged}
use Rattle.simplex_record.specs.World.{World, IsCorrect, IsSound}

module _ {D : Type 0} where
  -- a view is explicit: the record has a finalization of it, or a true verdict on it
  abbrev pub IsExplicit : List (Entry D) → ℕ → Type 0
  IsExplicit record_ view = ((p : Proposal D) × (p.round.view ≡ view) × HasTaken record_ (finalize p)) ⊎ ((r : Round) × (r.view ≡ view) × HasJudged record_ r true)

  -- it may be built on: it is the genesis, or explicit
  abbrev pub IsGround : List (Entry D) → ℕ → Type 0
  IsGround record_ view = (view ≡ 0) ⊎ IsExplicit record_ view

  -- a true verdict on a round stands on ground: a notarization of a proposal of its view was taken, and where the view
  -- starts no term, or the member is alone, the proposal's parent is ground
  abbrev pub JudgesOnGround : (size views : ℕ) → List (Entry D) → Round → Type 0
  JudgesOnGround size views record_ r = (p : Proposal D) × (p.round.view ≡ r.view) × HasTaken record_ (notarize p) × ((IsTermStart views p.round.view → ⊥) ⊎ (size ≡ 1) → IsGround record_ p.parent)

  -- a vote to notarize does: where the proposal's view starts a term, its parent is ground, or the member leads the view
  -- by the schedule
  abbrev pub VotesOnGround : (views : ℕ) → (ℕ → Option ℕ) → ℕ → List (Entry D) → Proposal D → Type 0
  VotesOnGround views leader member record_ p = IsTermStart views p.round.view → IsGround record_ p.parent ⊎ (leader p.round.view ≡ Some member)

  -- a record stands on ground, where the schedule names at most one leader of a view: what a member's run supplies beyond
  -- the rules
  pub record StandsOnGround (size views : ℕ) (leader : ℕ → Option ℕ) (member : ℕ) (record_ : List (Entry D)) : Type 0 where
    pub judged : (r : Round) → HasJudged record_ r true → JudgesOnGround size views record_ r
    pub voted : (p : Proposal D) → HasVoted record_ (notarize p) → VotesOnGround views leader member record_ p

  -- an entry may follow on ground: what the run shows at the moment at which it records the entry
  abbrev pub MayFollowOnGround : (size views : ℕ) → (ℕ → Option ℕ) → ℕ → List (Entry D) → Entry D → Type 0
  MayFollowOnGround size views leader member before (voted (notarize p)) = VotesOnGround views leader member before p
  MayFollowOnGround size views leader member before (voted (nullify r)) = ⊤
  MayFollowOnGround size views leader member before (voted (finalize p)) = ⊤
  MayFollowOnGround size views leader member before (taken s) = ⊤
  MayFollowOnGround size views leader member before (judged r true) = JudgesOnGround size views before r
  MayFollowOnGround size views leader member before (judged r false) = ⊤

module _ {S D P G C : Type 0} where
  -- each correct member's record does, all by one schedule
  abbrev pub AllStandOnGround : (ℕ → Option ℕ) → World S D P G C → Type 0
  AllStandOnGround leader world = (i : ℕ) → IsCorrect world i → StandsOnGround world.size world.term_length leader i (entries (world.recorded i))

  module _ (attests : ℕ → Statement D → G → Type 0) (lists : C → List (Attestation G)) (world : World S D P G C) where
    -- a proposal is notarized: a correct member recorded a sound notarization of it
    pub record IsNotarized (p : Proposal D) : Type 0 where
      pub member : ℕ
      pub correct : IsCorrect world member
      pub notarization : Notarization S D P G C
      pub of_it : notarization.proposal ≡ p
      pub recorded : Contains (world.recorded member) (artifact.Notarization notarization)
      pub sound : IsSound attests lists world (certificate.Notarization notarization)

    -- parents lead down from the proposal p through these to q, each notarized: the first is of the view that p names as
    -- its parent, and so on, and the last is q; with none, p is q
    abbrev pub LeadDown : Proposal D → List (Proposal D) → Proposal D → Type 0
    LeadDown p [] q = IsNotarized p × (p ≡ q)
    LeadDown p (r ∷ rest) q = IsNotarized p × (r.round.view ≡ p.parent) × (r.round.view < p.round.view) × LeadDown r rest q

    -- one chain: from what is finalized parents lead down to all that is finalized of a view no higher
    abbrev pub OneChain : Type 0
    OneChain = (c d : Finalization S D P G C) → IsSound attests lists world (certificate.Finalization c) → IsSound attests lists world (certificate.Finalization d)
        → d.proposal.round.view ≤ c.proposal.round.view → (path : List (Proposal D)) × LeadDown c.proposal path d.proposal
