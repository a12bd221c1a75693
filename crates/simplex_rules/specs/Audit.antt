-- What an audit answers.
use Rattle.std.specs.Prelude.{◌≡◌, ◌≢◌, ◌<◌, ◌⊎◌, ℕ, ◌+◌, List, [], ◌++◌, length, Contains, All, AllPairs, Result, Option, Some, None, MatchOption, IsErr}
use Rattle.std.specs.List.{flat_map}
use Rattle.std.specs.declared.cmp.Ordering.{Ordering}
use Rattle.types_codec.specs.declared.codec.CodecError.{CodecError}
use Rattle.types_core.specs.declared.attestation.Attestation.{Attestation}
use Rattle.types_core.specs.declared.position.Round.{Round}
use Rattle.types_core.specs.Subject.{Statement, notarize, finalize}
use Rattle.simplex_messages.specs.declared.activity.Activity.{Activity}
use Rattle.simplex_messages.specs.declared.activity.Activity.TheVariants as activity
use Rattle.simplex_messages.specs.Guilt.{notarizes_of, nullifies_of, finalizes_of, IsGuilty, IsLeastEvidence, IsGuiltyBeside, IsLeastBeside}

-- the bytes are these messages, each of which can be read, and then nothing, or at the place of the fault no whole message
pub record IsRead {A : Type 0} (Fits : A → Type 0) (spelling : A → List ℕ) (reading : List ℕ → Result (A × List ℕ) CodecError)
    (bytes : List ℕ) (messages : List A) (fault : Option ℕ) : Type 0 where
  pub fitting : All Fits messages
  pub rest : List ℕ
  pub whole : bytes ≡ flat_map spelling messages ++ rest
  pub ends : MatchOption fault (rest ≡ []) (λ place. (place + length rest ≡ length bytes) × (rest ≢ []) × IsErr (reading rest))

-- what evidence is of: two notarizes, two finalizes, or a nullify beside a finalize
pub data Offence : Type 0 where
  TwoNotarizes : Offence
  TwoFinalizes : Offence
  NullifyBeside : Offence

-- where an offence stands among those of one signer in one round
abbrev pub offence_place : Offence → ℕ
offence_place TwoNotarizes = 0
offence_place TwoFinalizes = 1
offence_place NullifyBeside = 2

-- an offence, and the round and the signer that it is of
pub record Accusation : Type 0 where
  pub round : Round
  pub signer : ℕ
  pub offence : Offence

-- what a report accuses whom of: evidence does, and nothing else
abbrev pub accused : {S D P G C : Type 0} → Activity S D P G C → Option Accusation
accused (activity.Notarize v) = None
accused (activity.Notarization c) = None
accused (activity.Certification c) = None
accused (activity.Nullify v) = None
accused (activity.Nullification c) = None
accused (activity.Finalize v) = None
accused (activity.Finalization c) = None
accused (activity.ConflictingNotarize x) = Some (record { round = x.0.proposal.round; signer = x.0.attestation.signer; offence = TwoNotarizes })
accused (activity.ConflictingFinalize x) = Some (record { round = x.0.proposal.round; signer = x.0.attestation.signer; offence = TwoFinalizes })
accused (activity.NullifyFinalize x) = Some (record { round = x.0.round; signer = x.0.attestation.signer; offence = NullifyBeside })

-- an accusation stands before another: by epoch, then view, then signer, then offence
abbrev pub StandsBefore : Accusation → Accusation → Type 0
StandsBefore x y =
    (x.round.epoch < y.round.epoch) ⊎ ((x.round.epoch ≡ y.round.epoch)
    × ((x.round.view < y.round.view) ⊎ ((x.round.view ≡ y.round.view)
    × ((x.signer < y.signer) ⊎ ((x.signer ≡ y.signer) × (offence_place x.offence < offence_place y.offence))))))

-- both are accusations, and the first stands before the second
abbrev pub AreInOrder : Option Accusation → Option Accusation → Type 0
AreInOrder None b = ⊥
AreInOrder (Some x) None = ⊥
AreInOrder (Some x) (Some y) = StandsBefore x y

module _ {S D P G C : Type 0} where
  -- a piece of the evidence makes this accusation
  abbrev pub IsAccused : List (Activity S D P G C) → Accusation → Type 0
  IsAccused evidence x = (a : Activity S D P G C) × Contains evidence a × (accused a ≡ Some x)

  module _ (lists : C → List (Attestation G)) (attests : ℕ → Statement D → G → Type 0) (cmp : D → D → Ordering) where
    -- the report is the evidence that these reports' votes give: of the least proposals, and of the votes read first that verify
    abbrev pub IsLeast : List (Activity S D P G C) → Activity S D P G C → Type 0
    IsLeast reports (activity.Notarize v) = ⊥
    IsLeast reports (activity.Notarization c) = ⊥
    IsLeast reports (activity.Certification c) = ⊥
    IsLeast reports (activity.Nullify v) = ⊥
    IsLeast reports (activity.Nullification c) = ⊥
    IsLeast reports (activity.Finalize v) = ⊥
    IsLeast reports (activity.Finalization c) = ⊥
    IsLeast reports (activity.ConflictingNotarize x) = IsLeastEvidence notarize attests cmp (notarizes_of lists reports) x.0 x.1
    IsLeast reports (activity.ConflictingFinalize x) = IsLeastEvidence finalize attests cmp (finalizes_of lists reports) x.0 x.1
    IsLeast reports (activity.NullifyFinalize x) = IsLeastBeside attests cmp (nullifies_of lists reports) (finalizes_of lists reports) x.0 x.1

    -- evidence for exactly the guilty among the votes of these reports
    pub record IsVerdict (reports : List (Activity S D P G C)) (evidence : List (Activity S D P G C)) : Type 0 where
      -- each piece is evidence, and of all that there is against its signer in its round the least
      pub sound : (a : Activity S D P G C) → Contains evidence a → IsLeast reports a
      -- who notarized two proposals of a round is accused of it
      pub two_notarizes : (round : Round) (signer : ℕ) → IsGuilty notarize attests (notarizes_of lists reports) round signer
          → IsAccused evidence (record { round = round; signer = signer; offence = TwoNotarizes })
      -- who finalized two proposals of a round is accused of it
      pub two_finalizes : (round : Round) (signer : ℕ) → IsGuilty finalize attests (finalizes_of lists reports) round signer
          → IsAccused evidence (record { round = round; signer = signer; offence = TwoFinalizes })
      -- who gave a round up and finalized a proposal of it is accused of it
      pub nullify_beside : (round : Round) (signer : ℕ)
          → IsGuiltyBeside attests (nullifies_of lists reports) (finalizes_of lists reports) round signer
          → IsAccused evidence (record { round = round; signer = signer; offence = NullifyBeside })
      -- by epoch, view, signer and offence, each accusation once
      pub sorted : AllPairs (λ a b. AreInOrder (accused a) (accused b)) evidence

    -- the evidence against the guilty of the reports that the bytes hold, up to the first place where none stands
    pub record IsAudit (Fits : Activity S D P G C → Type 0) (spelling : Activity S D P G C → List ℕ)
        (reading : List ℕ → Result (Activity S D P G C × List ℕ) CodecError) (bytes : List ℕ) (evidence : List (Activity S D P G C))
        (fault : Option ℕ) : Type 0 where
      pub reports : List (Activity S D P G C)
      pub read : IsRead Fits spelling reading bytes reports fault
      pub verdict : IsVerdict reports evidence
