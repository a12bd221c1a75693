-- What a node has recorded.
use Rattle.std.specs.Prelude.{◌==◌, ◌++◌, ℕ, true, false, List, [], ◌∷◌, Option, Some, None, option_map, option_to_list, nat_lt, if◌then◌else◌}
use Rattle.simplex_messages.specs.declared.activity.Activity.{Activity}
use Rattle.simplex_messages.specs.declared.activity.Activity.TheVariants as activity
use Rattle.messages_certificates.specs.declared.artifact.Artifact.{Artifact}
use Rattle.messages_certificates.specs.declared.artifact.Artifact.TheVariants as artifact
use Rattle.messages_certificates.specs.Artifact.{certificate_artifact}
use Rattle.simplex_messages.specs.VoteParts.{vote_artifact}
use Rattle.messages_certificates.specs.ProposalCertificate.{Notarization, Finalization}
use Rattle.simplex_record.specs.Record.{entries, last_finalized, floor}
use Rattle.simplex_record.specs.Lawful.{rewritten}
use Rattle.simplex_member.specs.Point.{Point, Found, Came, Judged, Constructs, Votes, Rewrote, History}

-- a list, and behind it one more, if there is one
abbrev pub put_behind : {X : Type 0} → List X → Option X → List X
put_behind xs None = xs
put_behind xs (Some x) = xs ++ x ∷ []

module _ {S D P G C : Type 0} where
  -- the notarization of a view that a record has
  abbrev pub notarization_in : List (Artifact S D P G C) → ℕ → Option (Notarization S D P G C)
  notarization_in [] view = None
  notarization_in (artifact.Notarization c ∷ xs) view = if c.proposal.round.view == view then Some c else notarization_in xs view
  notarization_in (x ∷ xs) view = notarization_in xs view

  -- the finalization of a view that a record has
  abbrev pub finalization_in : List (Artifact S D P G C) → ℕ → Option (Finalization S D P G C)
  finalization_in [] view = None
  finalization_in (artifact.Finalization c ∷ xs) view = if c.proposal.round.view == view then Some c else finalization_in xs view
  finalization_in (x ∷ xs) view = finalization_in xs view

  -- what a certificate, a vote, or a verdict is reported as behind a record: a true verdict with its notarization, a false one not
  abbrev pub reported : List (Artifact S D P G C) → Artifact S D P G C → List (Activity S D P G C)
  reported before (artifact.Notarize v) = activity.Notarize v ∷ []
  reported before (artifact.Notarization c) = activity.Notarization c ∷ []
  reported before (artifact.Certification round true) = option_to_list (option_map activity.Certification (notarization_in before round.view))
  reported before (artifact.Certification round false) = []
  reported before (artifact.Nullify v) = activity.Nullify v ∷ []
  reported before (artifact.Nullification c) = activity.Nullification c ∷ []
  reported before (artifact.Finalize v) = activity.Finalize v ∷ []
  reported before (artifact.Finalization c) = activity.Finalization c ∷ []

  -- what a point records, if anything
  abbrev pub recorded_by : Point S D P G C → Option (Artifact S D P G C)
  recorded_by (Found x taken) = Some x
  recorded_by (Came c) = Some (certificate_artifact c)
  recorded_by (Judged r ok) = Some (artifact.Certification r ok)
  recorded_by (Constructs view kind batch) = option_map certificate_artifact batch.certificate
  recorded_by (Votes v) = Some (vote_artifact v)
  recorded_by p = None

  -- what it adds to what an opening found, if anything
  abbrev pub added_by : Point S D P G C → Option (Artifact S D P G C)
  added_by (Found x taken) = None
  added_by p = recorded_by p

  -- the record, the oldest first: what the opening found, and what was recorded since, whatever a rewrite dropped
  abbrev pub record_of : History S D P G C → List (Artifact S D P G C)
  record_of [] = []
  record_of (p ∷ h) = put_behind (record_of h) (recorded_by p)

  -- what was recorded behind what the opening found
  abbrev pub fresh_of : History S D P G C → List (Artifact S D P G C)
  fresh_of [] = []
  fresh_of (p ∷ h) = put_behind (fresh_of h) (added_by p)

  -- what a point makes of what is kept, where terms have so many views: a rewrite leaves a part of it, all else goes behind it
  abbrev pub keeps : ℕ → Point S D P G C → List (Artifact S D P G C) → List (Artifact S D P G C)
  keeps views (Rewrote c) kept = rewritten views c kept
  keeps views p kept = put_behind kept (recorded_by p)

  -- what is kept: the record since the last rewrite, which the next opening finds
  abbrev pub kept_of : ℕ → History S D P G C → List (Artifact S D P G C)
  kept_of views [] = []
  kept_of views (p ∷ h) = keeps views p (kept_of views h)

  -- the finalization that a rewrite makes the record begin with: that of the last finalized view, unless the record begins behind it
  abbrev pub next_floor : List (Artifact S D P G C) → Option (Finalization S D P G C)
  next_floor kept =
      if nat_lt (floor (entries kept)) (last_finalized (entries kept)) then finalization_in kept (last_finalized (entries kept)) else None
