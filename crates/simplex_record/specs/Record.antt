-- What a record says: of a list of artifacts, oldest first, what each one says, and what follows from all of them.
use Rattle.std.specs.Prelude.{◌≡◌, ℕ, ◌+◌, ◌≤◌, Bool, true, false, max, List, [], ◌∷◌, ◌++◌, length, map, Contains, ⊤}
use Rattle.types_core.specs.declared.position.Round.{Round}
use Rattle.types_core.specs.declared.proposal.Proposal.{Proposal}
use Rattle.types_core.specs.Positions.{next_term_start, InCoveringRange}
use Rattle.types_core.specs.Subject.{Statement, notarize, nullify, finalize}
use Rattle.messages_certificates.specs.declared.artifact.Artifact.{Artifact}
use Rattle.messages_certificates.specs.declared.artifact.Artifact.TheVariants as artifact
use Rattle.types_terms.specs.declared.kind.Kind.{Kind}
use Rattle.types_terms.specs.declared.kind.Kind.TheVariants as kind
use Rattle.types_terms.specs.Windows.{retention_floor}

-- what an artifact says: that the record's member voted for a statement, that it took a certificate for one, or what the
-- application judged of a round's proposal
pub data Entry (D : Type 0) : Type 0 where
  voted : Statement D → Entry D
  taken : Statement D → Entry D
  judged : Round → Bool → Entry D

module _ {S D P G C : Type 0} where
  -- what one artifact says
  abbrev pub entry : Artifact S D P G C → Entry D
  entry (artifact.Notarize v) = voted (notarize v.proposal)
  entry (artifact.Notarization c) = taken (notarize c.proposal)
  entry (artifact.Certification round verdict) = judged round verdict
  entry (artifact.Nullify v) = voted (nullify v.round)
  entry (artifact.Nullification c) = taken (nullify c.round)
  entry (artifact.Finalize v) = voted (finalize v.proposal)
  entry (artifact.Finalization c) = taken (finalize c.proposal)

  -- what the artifacts say, one by one
  abbrev pub entries : List (Artifact S D P G C) → List (Entry D)
  entries artifacts = map entry artifacts

-- the greatest of the numbers that f gives of a list, and of a least one
abbrev pub greatest : {X : Type 0} → ℕ → (X → ℕ) → List X → ℕ
greatest least f [] = least
greatest least f (x ∷ xs) = max (f x) (greatest least f xs)

module _ {D : Type 0} where
  -- the member recorded a vote for the statement
  abbrev pub HasVoted : List (Entry D) → Statement D → Type 0
  HasVoted record_ s = Contains record_ (voted s)

  -- it recorded a certificate for the statement
  abbrev pub HasTaken : List (Entry D) → Statement D → Type 0
  HasTaken record_ s = Contains record_ (taken s)

  -- it recorded this verdict on the round
  abbrev pub HasJudged : List (Entry D) → Round → Bool → Type 0
  HasJudged record_ round verdict = Contains record_ (judged round verdict)

  -- it recorded this verdict on a round of the view
  abbrev pub HasVerdict : List (Entry D) → ℕ → Bool → Type 0
  HasVerdict record_ view verdict = (r : Round) × (r.view ≡ view) × HasJudged record_ r verdict

  -- it recorded a certificate of this kind and view
  abbrev pub HasCertificate : List (Entry D) → Kind → ℕ → Type 0
  HasCertificate record_ kind.Notarization view = (p : Proposal D) × (p.round.view ≡ view) × HasTaken record_ (notarize p)
  HasCertificate record_ kind.Nullification view = (r : Round) × (r.view ≡ view) × HasTaken record_ (nullify r)
  HasCertificate record_ kind.Finalization view = (p : Proposal D) × (p.round.view ≡ view) × HasTaken record_ (finalize p)

  -- an entry is a vote of the member to nullify
  abbrev pub IsNullify : Entry D → Type 0
  IsNullify (voted (notarize p)) = ⊥
  IsNullify (voted (nullify r)) = ⊤
  IsNullify (voted (finalize p)) = ⊥
  IsNullify (taken s) = ⊥
  IsNullify (judged r verdict) = ⊥

  -- the last nullify that the member recorded stands at this place, behind so many entries
  pub record IsLastNullify (record_ : List (Entry D)) (place : ℕ) : Type 0 where
    pub before : List (Entry D)
    pub round : Round
    pub after : List (Entry D)
    pub is : record_ ≡ before ++ voted (nullify round) ∷ after
    pub place_is : place ≡ length before
    pub last : (r : Round) → HasVoted after (nullify r) → ⊥

  -- the view that an entry finalizes, and 0 where it finalizes none
  abbrev pub finalizes : Entry D → ℕ
  finalizes (voted s) = 0
  finalizes (taken (notarize p)) = 0
  finalizes (taken (nullify r)) = 0
  finalizes (taken (finalize p)) = p.round.view
  finalizes (judged round verdict) = 0

  -- the last finalized view: the highest of which the record has a finalization, or 0
  abbrev pub last_finalized : List (Entry D) → ℕ
  last_finalized record_ = greatest 0 finalizes record_

  -- the view that an entry enters, where terms have so many views: behind a nullification the next term's start, behind
  -- a finalization or a true verdict the next view, and else 0
  abbrev pub enters : ℕ → Entry D → ℕ
  enters views (voted s) = 0
  enters views (taken (notarize p)) = 0
  enters views (taken (nullify r)) = next_term_start views r.view
  enters views (taken (finalize p)) = p.round.view + 1
  enters views (judged round true) = round.view + 1
  enters views (judged round false) = 0

  -- the current view: the highest that is entered, from 1 on
  abbrev pub current_view : ℕ → List (Entry D) → ℕ
  current_view views record_ = greatest 1 (enters views) record_

  -- a view is covered: the record has a nullification of it or of an earlier view of its term
  abbrev pub IsCovered : ℕ → List (Entry D) → ℕ → Type 0
  IsCovered views record_ view = (r : Round) × InCoveringRange views view r.view × HasTaken record_ (nullify r)

  -- the view that the record begins behind: that of its first entry, where it finalizes one
  abbrev pub floor : List (Entry D) → ℕ
  floor [] = 0
  floor (e ∷ record_) = finalizes e

  -- a view is kept, where so many views below the last finalized one are retained: it isn't below the least of these
  abbrev pub IsKept : ℕ → List (Entry D) → ℕ → Type 0
  IsKept retention record_ view = retention_floor (last_finalized record_) retention ≤ view
