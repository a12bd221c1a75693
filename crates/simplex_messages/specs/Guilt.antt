-- Who is guilty: a member in whose name two verifying votes contradict each other.
use Rattle.std.specs.Prelude.{◌≡◌, ◌<◌, ◌⊎◌, ℕ, List, [], ◌∷◌, ◌++◌, map, Contains}
use Rattle.std.specs.List.{flat_map}
use Rattle.std.specs.declared.cmp.Ordering.{Ordering}
use Rattle.std.specs.declared.cmp.Ordering.TheVariants.{Less}
use Rattle.types_core.specs.declared.attestation.Attestation.{Attestation}
use Rattle.types_core.specs.declared.position.Round.{Round}
use Rattle.types_core.specs.declared.proposal.Proposal.{Proposal}
use Rattle.types_core.specs.Subject.{Statement, finalize}
use Rattle.messages_certificates.specs.declared.nullification.Nullification.{Nullification}
use Rattle.messages_certificates.specs.declared.nullify.Nullify.{Nullify}
use Rattle.messages_certificates.specs.declared.proposal_certificate.ProposalCertificate.{ProposalCertificate}
use Rattle.messages_certificates.specs.declared.proposal_vote.ProposalVote.{ProposalVote}
use Rattle.messages_certificates.specs.Nullify.{NullifyIsAttested, nullify_of_parts}
use Rattle.messages_certificates.specs.StandsBeside.{StandsBeside}
use Rattle.messages_certificates.specs.ProposalVote.{Notarize, Finalize, Contradict, IsAttested, vote_of_parts}
use Rattle.simplex_messages.specs.declared.activity.Activity.{Activity}
use Rattle.simplex_messages.specs.declared.activity.Activity.TheVariants as activity

-- votes that certificates list, which the scheme says of what certifies
module _ {S D P G C : Type 0} (lists : C → List (Attestation G)) where
  -- the votes that a certificate for a proposal lists, one for each attestation
  abbrev pub votes_listed : {K : Type 0} → ProposalCertificate K S D P G C → List (ProposalVote K S D P G C)
  votes_listed c = map (λ a. vote_of_parts (c.proposal, a)) (lists c.certificate)

  -- the nullifies that a nullification lists, one for each attestation
  abbrev pub nullifies_listed : Nullification S D P G C → List (Nullify S D P G C)
  nullifies_listed c = map (λ a. nullify_of_parts (c.round, a)) (lists c.certificate)

  -- the notarizes that a report holds, loose, in a certificate or as evidence, in the order of its bytes
  abbrev pub notarizes_in : Activity S D P G C → List (Notarize S D P G C)
  notarizes_in (activity.Notarize v) = v ∷ []
  notarizes_in (activity.Notarization c) = votes_listed c
  notarizes_in (activity.Certification c) = votes_listed c
  notarizes_in (activity.Nullify v) = []
  notarizes_in (activity.Nullification c) = []
  notarizes_in (activity.Finalize v) = []
  notarizes_in (activity.Finalization c) = []
  notarizes_in (activity.ConflictingNotarize x) = x.0 ∷ x.1 ∷ []
  notarizes_in (activity.ConflictingFinalize x) = []
  notarizes_in (activity.NullifyFinalize x) = []

  -- the nullifies that a report holds, loose, in a certificate or as evidence
  abbrev pub nullifies_in : Activity S D P G C → List (Nullify S D P G C)
  nullifies_in (activity.Notarize v) = []
  nullifies_in (activity.Notarization c) = []
  nullifies_in (activity.Certification c) = []
  nullifies_in (activity.Nullify v) = v ∷ []
  nullifies_in (activity.Nullification c) = nullifies_listed c
  nullifies_in (activity.Finalize v) = []
  nullifies_in (activity.Finalization c) = []
  nullifies_in (activity.ConflictingNotarize x) = []
  nullifies_in (activity.ConflictingFinalize x) = []
  nullifies_in (activity.NullifyFinalize x) = x.0 ∷ []

  -- the finalizes that a report holds, loose, in a certificate or as evidence, in the order of its bytes
  abbrev pub finalizes_in : Activity S D P G C → List (Finalize S D P G C)
  finalizes_in (activity.Notarize v) = []
  finalizes_in (activity.Notarization c) = []
  finalizes_in (activity.Certification c) = []
  finalizes_in (activity.Nullify v) = []
  finalizes_in (activity.Nullification c) = []
  finalizes_in (activity.Finalize v) = v ∷ []
  finalizes_in (activity.Finalization c) = votes_listed c
  finalizes_in (activity.ConflictingNotarize x) = []
  finalizes_in (activity.ConflictingFinalize x) = x.0 ∷ x.1 ∷ []
  finalizes_in (activity.NullifyFinalize x) = x.1 ∷ []

  -- the notarizes of a list of reports, in the order of their bytes
  abbrev pub notarizes_of : List (Activity S D P G C) → List (Notarize S D P G C)
  notarizes_of reports = flat_map notarizes_in reports

  -- the nullifies of a list of reports, in the order of their bytes
  abbrev pub nullifies_of : List (Activity S D P G C) → List (Nullify S D P G C)
  nullifies_of reports = flat_map nullifies_in reports

  -- the finalizes of a list of reports, in the order of their bytes
  abbrev pub finalizes_of : List (Activity S D P G C) → List (Finalize S D P G C)
  finalizes_of reports = flat_map finalizes_in reports

-- votes of the kind K, which state this of a proposal
module _ {K S D P G C : Type 0} where
  -- the vote was cast by this signer in this round
  pub record IsCastBy (round : Round) (signer : ℕ) (v : ProposalVote K S D P G C) : Type 0 where
    pub round_is : v.proposal.round ≡ round
    pub signer_is : v.attestation.signer ≡ signer

  module _ (states : Proposal D → Statement D) (attests : ℕ → Statement D → G → Type 0) where
    -- two of the votes are the signer's, are of the round, verify, and contradict each other
    pub record IsGuilty (votes : List (ProposalVote K S D P G C)) (round : Round) (signer : ℕ) : Type 0 where
      pub first : ProposalVote K S D P G C
      pub second : ProposalVote K S D P G C
      pub first_is_there : Contains votes first
      pub second_is_there : Contains votes second
      pub first_verifies : IsAttested states attests first
      pub second_verifies : IsAttested states attests second
      pub first_is_theirs : IsCastBy round signer first
      pub contradict : Contradict first second

    -- of the votes of its signer for its proposal it is the first that verifies
    pub record IsFirstRead (votes : List (ProposalVote K S D P G C)) (v : ProposalVote K S D P G C) : Type 0 where
      pub before : List (ProposalVote K S D P G C)
      pub after : List (ProposalVote K S D P G C)
      pub whole : votes ≡ before ++ v ∷ after
      pub verifies : IsAttested states attests v
      pub first : (u : ProposalVote K S D P G C) → Contains before u → IsAttested states attests u
          → u.attestation.signer ≡ v.attestation.signer → u.proposal ≡ v.proposal → ⊥

module _ {S D P G C : Type 0} (attests : ℕ → Statement D → G → Type 0) where
  -- a nullify and a finalize are the signer's, are of the round, and verify
  pub record IsGuiltyBeside (nullifies : List (Nullify S D P G C)) (finalizes : List (Finalize S D P G C)) (round : Round) (signer : ℕ) : Type 0 where
    pub first : Nullify S D P G C
    pub second : Finalize S D P G C
    pub first_is_there : Contains nullifies first
    pub second_is_there : Contains finalizes second
    pub first_verifies : NullifyIsAttested attests first
    pub second_verifies : IsAttested finalize attests second
    pub round_is : first.round ≡ round
    pub signer_is : first.attestation.signer ≡ signer
    pub beside : StandsBeside first second

  -- of the nullifies of its signer for its round it is the first that verifies
  pub record IsFirstNullify (nullifies : List (Nullify S D P G C)) (v : Nullify S D P G C) : Type 0 where
    pub before : List (Nullify S D P G C)
    pub after : List (Nullify S D P G C)
    pub whole : nullifies ≡ before ++ v ∷ after
    pub verifies : NullifyIsAttested attests v
    pub first : (u : Nullify S D P G C) → Contains before u → NullifyIsAttested attests u → u.attestation.signer ≡ v.attestation.signer
        → u.round ≡ v.round → ⊥

-- of two proposals of one round the lesser, by parent, then payload
abbrev pub IsBelow : {D : Type 0} → (D → D → Ordering) → Proposal D → Proposal D → Type 0
IsBelow cmp p q = (p.parent < q.parent) ⊎ ((p.parent ≡ q.parent) × (cmp p.payload q.payload ≡ Less))

module _ {K S D P G C : Type 0} (states : Proposal D → Statement D) (attests : ℕ → Statement D → G → Type 0) (cmp : D → D → Ordering) where
  -- a and b are votes for the two least proposals that one signer's verifying votes of one round are for,
  -- each the first read that verifies
  pub record IsLeastEvidence (votes : List (ProposalVote K S D P G C)) (a b : ProposalVote K S D P G C) : Type 0 where
    pub contradict : Contradict a b
    pub first : IsFirstRead states attests votes a
    pub second : IsFirstRead states attests votes b
    pub below : IsBelow cmp a.proposal b.proposal
    pub least : (v : ProposalVote K S D P G C) → Contains votes v → IsAttested states attests v → IsCastBy a.proposal.round a.attestation.signer v
        → (v.proposal ≡ a.proposal) ⊎ ((v.proposal ≡ b.proposal) ⊎ IsBelow cmp b.proposal v.proposal)

module _ {S D P G C : Type 0} (attests : ℕ → Statement D → G → Type 0) (cmp : D → D → Ordering) where
  -- a is the signer's first nullify of its round that verifies, and b the first that verifies of its finalizes for
  -- the least proposal of that round
  pub record IsLeastBeside (nullifies : List (Nullify S D P G C)) (finalizes : List (Finalize S D P G C)) (a : Nullify S D P G C)
      (b : Finalize S D P G C) : Type 0 where
    pub beside : StandsBeside a b
    pub first : IsFirstNullify attests nullifies a
    pub second : IsFirstRead finalize attests finalizes b
    pub least : (v : Finalize S D P G C) → Contains finalizes v → IsAttested finalize attests v → IsCastBy b.proposal.round b.attestation.signer v
        → (v.proposal ≡ b.proposal) ⊎ IsBelow cmp b.proposal v.proposal
