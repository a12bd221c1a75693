-- Lawful records.
use Rattle.std.specs.Prelude.{◌≡◌, ℕ, nat_lt, List, [], ◌∷◌, ◌++◌, length, Contains, ⊤}
use Rattle.std.specs.List.{filter}
use Rattle.types_core.specs.declared.attestation.Attestation.{Attestation}
use Rattle.types_core.specs.Subject.{Statement, notarize, nullify, finalize, statement_round}
use Rattle.messages_certificates.specs.declared.artifact.Artifact.{Artifact}
use Rattle.messages_certificates.specs.declared.artifact.Artifact.TheVariants as artifact
use Rattle.messages_certificates.specs.ProposalCertificate.{Finalization}
use Rattle.simplex_record.specs.declared.owner.Owner.{Owner}
use Rattle.simplex_record.specs.Record.{entry, entries, last_finalized}
use Rattle.simplex_record.specs.Rules.{MayFollow, MayEverFollow, StandsByVotes, reach}

-- a vote on the statement is the owner's, of the epoch, and verifies
pub record IsOwnVote {D G : Type 0} (attests : ℕ → Statement D → G → Type 0) (owner : Owner) (s : Statement D) (a : Attestation G) : Type 0 where
  pub own : a.signer ≡ owner.signer
  pub epoch : (statement_round s).epoch ≡ owner.epoch
  pub verifies : attests a.signer s a.signature

-- a certificate for the statement is of the epoch, and certifies
pub record IsCertified {D C : Type 0} (certifies : Statement D → C → Type 0) (owner : Owner) (s : Statement D) (c : C) : Type 0 where
  pub epoch : (statement_round s).epoch ≡ owner.epoch
  pub verifies : certifies s c

-- what a rewrite leaves of a record, where terms have so many views: this finalization, then in their order the artifacts
-- that reach above its view
abbrev pub rewritten : {S D P G C : Type 0} → ℕ → Finalization S D P G C → List (Artifact S D P G C) → List (Artifact S D P G C)
rewritten views floor record_ = artifact.Finalization floor ∷ filter (λ x. nat_lt floor.proposal.round.view (reach views (entry x))) record_

module _ {S D P G C : Type 0} (attests : ℕ → Statement D → G → Type 0) (certifies : Statement D → C → Type 0) (owner : Owner) where
  -- the artifact verifies: an own vote by its attestation, a certificate by what it is made of, a verdict always
  abbrev pub Verifies : Artifact S D P G C → Type 0
  Verifies (artifact.Notarize v) = IsOwnVote attests owner (notarize v.proposal) v.attestation
  Verifies (artifact.Notarization c) = IsCertified certifies owner (notarize c.proposal) c.certificate
  Verifies (artifact.Certification round verdict) = ⊤
  Verifies (artifact.Nullify v) = IsOwnVote attests owner (nullify v.round) v.attestation
  Verifies (artifact.Nullification c) = IsCertified certifies owner (nullify c.round) c.certificate
  Verifies (artifact.Finalize v) = IsOwnVote attests owner (finalize v.proposal) v.attestation
  Verifies (artifact.Finalization c) = IsCertified certifies owner (finalize c.proposal) c.certificate

  -- the artifact may stand behind these: it verifies, and the rules allow it
  pub record Fits (before : List (Artifact S D P G C)) (x : Artifact S D P G C) : Type 0 where
    pub verifies : Verifies x
    pub follows : MayFollow owner.term_length (entries before) (entry x)

  -- a record is lawful: each artifact may stand behind the ones before it
  abbrev pub IsLawful : List (Artifact S D P G C) → Type 0
  IsLawful artifacts = (before after : List (Artifact S D P G C)) (x : Artifact S D P G C) → artifacts ≡ before ++ x ∷ after → Fits before x

  -- a record's artifact at a position may not stand there, and those before it are a lawful record
  pub record IsRefusedAt (artifacts : List (Artifact S D P G C)) (position : ℕ) : Type 0 where
    pub before : List (Artifact S D P G C)
    pub x : Artifact S D P G C
    pub after : List (Artifact S D P G C)
    pub is : artifacts ≡ before ++ x ∷ after
    pub position_is : position ≡ length before
    pub lawful : IsLawful before
    pub refused : Fits before x → ⊥

  -- the artifact may stand behind all these that were ever recorded, where so much is kept
  pub record EverFits (before kept : List (Artifact S D P G C)) (x : Artifact S D P G C) : Type 0 where
    pub verifies : Verifies x
    pub follows : MayEverFollow owner.term_length (entries before) (entries kept) (entry x)

  -- a member recorded all these, one after the other, and keeps so much of them: each may stand behind all that it had
  -- ever recorded, by what it kept then; and now and then it kept of what it kept only what a rewrite leaves behind the
  -- finalization of its last finalized view
  pub data IsRecorded : List (Artifact S D P G C) → List (Artifact S D P G C) → Type 0 where
    nothing : IsRecorded [] []
    further : {ever kept : List (Artifact S D P G C)} (x : Artifact S D P G C) → IsRecorded ever kept → EverFits ever kept x → IsRecorded (ever ++ x ∷ []) (kept ++ x ∷ [])
    rewrote : {ever kept : List (Artifact S D P G C)} (floor : Finalization S D P G C) → IsRecorded ever kept → Contains kept (artifact.Finalization floor)
        → floor.proposal.round.view ≡ last_finalized (entries kept) → IsRecorded ever (rewritten owner.term_length floor kept)

  -- all that was ever recorded is lawful: so it was recorded, whatever is kept of it
  abbrev pub IsEverLawful : List (Artifact S D P G C) → Type 0
  IsEverLawful artifacts = (kept : List (Artifact S D P G C)) × IsRecorded artifacts kept

  -- an artifact stands in its place, as far as agreement asks: it verifies, and stands by all that was ever recorded before
  pub record EverStands (before : List (Artifact S D P G C)) (x : Artifact S D P G C) : Type 0 where
    pub verifies : Verifies x
    pub stands : StandsByVotes owner.term_length (entries before) (entry x)

  -- a member votes lawfully, of whom this is all that it ever recorded: each artifact stands in its place
  abbrev pub VotesLawfully : List (Artifact S D P G C) → Type 0
  VotesLawfully artifacts = (before after : List (Artifact S D P G C)) (x : Artifact S D P G C) → artifacts ≡ before ++ x ∷ after → EverStands before x
