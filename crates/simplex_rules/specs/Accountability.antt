-- What an audit makes of certificates that contradict each other.
use Rattle.std.specs.Prelude.{◌≡◌, ◌≢◌, ◌<◌, ◌≤◌, ◌⊎◌, ℕ, List, length, All, AllPairs, Contains}
use Rattle.types_core.specs.declared.position.Round.{Round}
use Rattle.types_core.specs.Subject.{Statement, notarize, nullify, finalize}
use Rattle.simplex_messages.specs.declared.activity.Activity.{Activity}
use Rattle.simplex_messages.specs.declared.activity.Activity.TheVariants as activity
use Rattle.messages_certificates.specs.declared.nullification.Nullification.{Nullification}
use Rattle.messages_certificates.specs.ProposalCertificate.{Notarization, Finalization}
use Rattle.simplex_rules.specs.Audit.{IsAccused, Offence}

module _ {S D P G C : Type 0} where
  -- the reports hold this notarization, as itself or as what was certified
  abbrev pub HoldNotarization : List (Activity S D P G C) → Notarization S D P G C → Type 0
  HoldNotarization reports c = Contains reports (activity.Notarization c) ⊎ Contains reports (activity.Certification c)

  module _ (certifies : Statement D → C → Type 0) (reports : List (Activity S D P G C)) (round : Round) where
    -- the reports hold two notarizations of the round that verify, for different proposals
    pub record AreTwoNotarized : Type 0 where
      pub first : Notarization S D P G C
      pub second : Notarization S D P G C
      pub first_is_held : HoldNotarization reports first
      pub second_is_held : HoldNotarization reports second
      pub first_certifies : certifies (notarize first.proposal) first.certificate
      pub second_certifies : certifies (notarize second.proposal) second.certificate
      pub first_round : first.proposal.round ≡ round
      pub second_round : second.proposal.round ≡ round
      pub two_proposals : first.proposal ≢ second.proposal

    -- the reports hold two finalizations of the round that verify, for different proposals
    pub record AreTwoFinalized : Type 0 where
      pub first : Finalization S D P G C
      pub second : Finalization S D P G C
      pub first_is_held : Contains reports (activity.Finalization first)
      pub second_is_held : Contains reports (activity.Finalization second)
      pub first_certifies : certifies (finalize first.proposal) first.certificate
      pub second_certifies : certifies (finalize second.proposal) second.certificate
      pub first_round : first.proposal.round ≡ round
      pub second_round : second.proposal.round ≡ round
      pub two_proposals : first.proposal ≢ second.proposal

    -- the reports hold a nullification of the round and a finalization of it, which verify
    pub record IsNullifiedFinalized : Type 0 where
      pub first : Nullification S D P G C
      pub second : Finalization S D P G C
      pub first_is_held : Contains reports (activity.Nullification first)
      pub second_is_held : Contains reports (activity.Finalization second)
      pub first_certifies : certifies (nullify first.round) first.certificate
      pub second_certifies : certifies (finalize second.proposal) second.certificate
      pub first_round : first.round ≡ round
      pub second_round : second.proposal.round ≡ round

    -- certificates among the reports contradict each other on this round
    abbrev pub IsContradicted : Type 0
    IsContradicted = AreTwoNotarized ⊎ (AreTwoFinalized ⊎ IsNullifiedFinalized)

  -- the evidence accuses at least so many distinct members of a committee of n of something in this round
  pub record NamesAtLeast (count n : ℕ) (evidence : List (Activity S D P G C)) (round : Round) : Type 0 where
    pub names : List ℕ
    pub distinct : AllPairs (λ i j. i ≢ j) names
    pub members : All (λ i. i < n) names
    pub enough : count ≤ length names
    pub accused : (i : ℕ) → Contains names i → (o : Offence) × IsAccused evidence (record { round = round; signer = i; offence = o })
