-- What the audit keeps of the reports that it has counted, and the evidence that this gives.
use Rattle.std.specs.Prelude.{◌≡◌, ◌≢◌, ◌⊎◌, ℕ, List, [], ◌∷◌, ◌++◌, Contains, Option, Some, None, IsTrue, slice_get}
use Rattle.std.specs.BTreeSet.{BTreeSet, contains}
use Rattle.std.specs.declared.cmp.Ordering.{Ordering}
use Rattle.types_core.specs.declared.attestation.Attestation.{Attestation}
use Rattle.types_core.specs.declared.proposal.Proposal.{Proposal}
use Rattle.types_core.specs.Subject.{Statement, notarize, nullify, finalize}
use Rattle.simplex_messages.specs.declared.activity.Activity.{Activity}
use Rattle.messages_certificates.specs.declared.nullify.Nullify.{Nullify}
use Rattle.messages_certificates.specs.declared.proposal_vote.ProposalVote.{ProposalVote}
use Rattle.messages_certificates.specs.ProposalVote.{Finalize, IsAttested}
use Rattle.messages_certificates.specs.Nullify.{NullifyIsAttested}
use Rattle.simplex_messages.specs.Activity.{conflicting_notarize_report, conflicting_finalize_report, nullify_finalize_report}
use Rattle.simplex_messages.specs.Guilt.{notarizes_of, nullifies_of, finalizes_of, IsBelow, IsCastBy, IsFirstRead, IsFirstNullify, IsGuiltyBeside, IsLeastBeside}
use Rattle.simplex_rules.specs.declared.cast.Cast.{Cast}
use Rattle.simplex_rules.specs.declared.cast.Kept.{Kept}
use Rattle.simplex_rules.specs.declared.cast.Kept.TheVariants.{Nothing, Claim, One, Two}
use Rattle.simplex_rules.specs.declared.cast.Suspect.{Suspect}
use Rattle.simplex_rules.specs.declared.nullifies.Given.{Given}
use Rattle.simplex_rules.specs.declared.nullifies.Given.TheVariants as given
use Rattle.simplex_rules.specs.declared.tally.Tally.{Tally}
use Rattle.simplex_rules.specs.Cast.{IsFirst, AreNone, Summarizes}
use Rattle.simplex_rules.specs.Kept.{kept_of, suspect_cmp, Holds}

-- the suspect's vote that was cast so is attested
abbrev pub CastIsAttested : {D G : Type 0} → (Proposal D → Statement D) → (ℕ → Statement D → G → Type 0) → Suspect → Cast D G → Type 0
CastIsAttested states attests q c = attests q.signer (states (record { round = q.round; parent = c.choice.parent; payload = c.choice.payload })) c.signature

-- what is kept of a suspect's votes on proposals
abbrev pub KeepsVotes : {D G : Type 0} → (Proposal D → Statement D) → (ℕ → Statement D → G → Type 0) → (D → D → Ordering) → Suspect → List (Cast D G) → Kept D G → Type 0
KeepsVotes states attests cmp q casts kept = Summarizes (CastIsAttested states attests q) cmp casts kept

-- votes of the kind K on a proposal
module _ {K S D P G C : Type 0} where
  -- in whose name a vote is
  abbrev pub suspect_of : ProposalVote K S D P G C → Suspect
  suspect_of v = record { round = v.proposal.round; signer = v.attestation.signer }

  -- what it is for, and its signature
  abbrev pub cast_of : ProposalVote K S D P G C → Cast D G
  cast_of v = record { choice = record { parent = v.proposal.parent; payload = v.proposal.payload }; signature = v.attestation.signature }

  -- both
  abbrev pub parts_of : ProposalVote K S D P G C → Suspect × Cast D G
  parts_of v = (suspect_of v, cast_of v)

  -- the vote of a suspect that was cast so
  abbrev pub vote_of : Suspect → Cast D G → ProposalVote K S D P G C
  vote_of q c = record { proposal = record { round = q.round; parent = c.choice.parent; payload = c.choice.payload }; attestation = record { signer = q.signer; signature = c.signature }; kind = record {} }

  -- of each suspect in the set, by its place, this keeps what there is to keep of these votes
  abbrev pub HoldsVotes : (Proposal D → Statement D) → (ℕ → Statement D → G → Type 0) → (D → D → Ordering) → BTreeSet Suspect → List (ProposalVote K S D P G C) → List (Kept D G) → Type 0
  HoldsVotes states attests cmp contested votes kept = Holds parts_of contested (KeepsVotes states attests cmp) votes kept

  -- the two votes that are kept of a suspect
  abbrev pub conflict_in : Suspect → Option (Kept D G) → Option (ProposalVote K S D P G C × ProposalVote K S D P G C)
  conflict_in q None = None
  conflict_in q (Some Nothing) = None
  conflict_in q (Some (Claim a)) = None
  conflict_in q (Some (One a)) = None
  conflict_in q (Some (Two a b)) = Some (vote_of q a, vote_of q b)

  -- of a suspect's votes that verify the first for the least proposal
  abbrev pub IsLeastOf : (Proposal D → Statement D) → (ℕ → Statement D → G → Type 0) → (D → D → Ordering) → List (ProposalVote K S D P G C) → Suspect → Option (ProposalVote K S D P G C) → Type 0
  IsLeastOf states attests cmp votes q None = (v : ProposalVote K S D P G C) → Contains votes v → IsAttested states attests v → suspect_of v ≡ q → ⊥
  IsLeastOf states attests cmp votes q (Some a) = IsFirstRead states attests votes a × ((v : ProposalVote K S D P G C) → Contains votes v → IsAttested states attests v → IsCastBy q.round q.signer v
      → (v.proposal ≡ a.proposal) ⊎ IsBelow cmp a.proposal v.proposal)

-- the two votes that are kept at the place, if there are two, are for two proposals
abbrev pub AreApart : {D G : Type 0} → List (Kept D G) → ℕ → Type 0
AreApart {D} {G} kept place = (a b : Cast D G) → slice_get kept place ≡ Some (Two a b) → a.choice ≢ b.choice

-- the suspect's nullify with this signature is attested
abbrev pub GivenIsAttested : {D G : Type 0} → (ℕ → Statement D → G → Type 0) → Suspect → G → Type 0
GivenIsAttested attests q signature = attests q.signer (nullify q.round) signature

-- what is kept of a suspect's nullifies: the first that verifies, or one that stands for all, if there are any
abbrev pub KeepsNullifies : {D G : Type 0} → (ℕ → Statement D → G → Type 0) → Suspect → List G → Given G → Type 0
KeepsNullifies attests q signatures given.Nothing = signatures ≡ []
KeepsNullifies attests q signatures (given.Claim a) =
    (GivenIsAttested attests q a → IsFirst (GivenIsAttested attests q) signatures a) × ((GivenIsAttested attests q a → ⊥) → AreNone (GivenIsAttested attests q) signatures)
KeepsNullifies attests q signatures (given.First a) = IsFirst (GivenIsAttested attests q) signatures a

module _ {S D P G C : Type 0} where
  -- in whose name a nullify is
  abbrev pub nullify_suspect : Nullify S D P G C → Suspect
  nullify_suspect v = record { round = v.round; signer = v.attestation.signer }

  -- the nullify of a suspect with this signature
  abbrev pub nullify_of : Suspect → G → Nullify S D P G C
  nullify_of q signature = record { round = q.round; attestation = record { signer = q.signer; signature = signature } }

  -- both
  abbrev pub nullify_parts : Nullify S D P G C → Suspect × G
  nullify_parts v = (nullify_suspect v, v.attestation.signature)

  -- of each suspect in the set, by its place, this keeps what there is to keep of these nullifies
  abbrev pub HoldsNullifies : (ℕ → Statement D → G → Type 0) → BTreeSet Suspect → List (Nullify S D P G C) → List (Given G) → Type 0
  HoldsNullifies attests contested votes kept = Holds nullify_parts contested (KeepsNullifies attests) votes kept

  -- of a suspect's nullifies the first that verifies
  abbrev pub IsFirstOf : (ℕ → Statement D → G → Type 0) → List (Nullify S D P G C) → Suspect → Option (Nullify S D P G C) → Type 0
  IsFirstOf attests votes q None = (v : Nullify S D P G C) → Contains votes v → NullifyIsAttested attests v → nullify_suspect v ≡ q → ⊥
  IsFirstOf attests votes q (Some a) = IsFirstNullify attests votes a

  -- a suspect's nullify beside its finalize, if it is guilty of that
  abbrev pub IsBesideOf : (ℕ → Statement D → G → Type 0) → (D → D → Ordering) → List (Nullify S D P G C) → List (Finalize S D P G C) → Suspect → Option (Nullify S D P G C × Finalize S D P G C) → Type 0
  IsBesideOf attests cmp nullifies finalizes q None = IsGuiltyBeside attests nullifies finalizes q.round q.signer → ⊥
  IsBesideOf attests cmp nullifies finalizes q (Some x) = (nullify_suspect x.0 ≡ q) × IsLeastBeside attests cmp nullifies finalizes x.0 x.1

  -- the tally keeps what there is to keep of the votes of these reports, of each suspect in the set
  pub record HoldsReports (lists : C → List (Attestation G)) (attests : ℕ → Statement D → G → Type 0) (cmp : D → D → Ordering) (contested : BTreeSet Suspect) (reports : List (Activity S D P G C)) (tally : Tally S D P G C) : Type 0 where
    pub notarizes : HoldsVotes notarize attests cmp contested (notarizes_of lists reports) tally.notarizes.kept.items
    pub nullifies : HoldsNullifies attests contested (nullifies_of lists reports) tally.nullifies.kept.items
    pub finalizes : HoldsVotes finalize attests cmp contested (finalizes_of lists reports) tally.finalizes.kept.items

  -- the report of evidence, where there is some
  abbrev pub reported : {A : Type 0} → (A → Activity S D P G C) → Option A → List (Activity S D P G C)
  reported report None = []
  reported report (Some x) = report x ∷ []

  -- the evidence against a suspect: the two votes that are kept of a kind, and a nullify beside a finalize
  abbrev pub evidence_at : BTreeSet Suspect → Tally S D P G C → Suspect → Option (Nullify S D P G C × Finalize S D P G C) → List (Activity S D P G C)
  evidence_at contested t q beside =
      reported conflicting_notarize_report (conflict_in q (kept_of contested t.notarizes.kept.items q))
      ++ (reported conflicting_finalize_report (conflict_in q (kept_of contested t.finalizes.kept.items q))
      ++ reported nullify_finalize_report beside)

  -- this is a suspect's nullify beside its finalize by whatever reports the tally holds, where the suspect is in the set
  abbrev pub IsBesideIn : (C → List (Attestation G)) → (ℕ → Statement D → G → Type 0) → (D → D → Ordering) → BTreeSet Suspect → Tally S D P G C → Suspect → Option (Nullify S D P G C × Finalize S D P G C) → Type 0
  IsBesideIn lists attests cmp contested t q beside = (reports : List (Activity S D P G C)) → HoldsReports lists attests cmp contested reports t → IsTrue (contains suspect_cmp contested q) → IsBesideOf attests cmp (nullifies_of lists reports) (finalizes_of lists reports) q beside

  -- a list grew by a suspect's evidence, which rests on its nullify beside its finalize
  pub record AddsEvidence (lists : C → List (Attestation G)) (attests : ℕ → Statement D → G → Type 0) (cmp : D → D → Ordering) (contested : BTreeSet Suspect) (t : Tally S D P G C) (q : Suspect) (evidence : Option (Nullify S D P G C × Finalize S D P G C) → List (Activity S D P G C)) (old new : List (Activity S D P G C)) : Type 0 where
    pub beside : Option (Nullify S D P G C × Finalize S D P G C)
    pub is_beside : IsBesideIn lists attests cmp contested t q beside
    pub whole : new ≡ old ++ evidence beside
