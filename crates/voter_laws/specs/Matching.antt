-- What a voter knows, beside what its record says. Behind that the laws of the voter, as statements.
use Rattle.std.specs.Prelude.{◌≡◌, ◌≢◌, ◌⊎◌, ◌↔◌, ◌<◌, ◌≤◌, ℕ, Bool, true, false, List, [], ◌∷◌, reverse, Contains, ◌+◌, max, Some, IsSome, IsTrue, ⊤, if◌then◌else◌}
use Rattle.types_core.specs.declared.position.Round.{Round}
use Rattle.types_core.specs.declared.proposal.Proposal.{Proposal}
use Rattle.types_core.specs.Subject.{notarize, nullify, finalize}
use Rattle.types_terms.specs.declared.kind.Kind.{Kind}
use Rattle.types_terms.specs.Windows.{AdmitsOutbound}
use Rattle.simplex_record.specs.Record as recorded
use Rattle.simplex_record.specs.Record.{Entry, HasVoted, HasTaken, HasJudged, current_view}
use Rattle.simplex_record.specs.Chain.{JudgesOnGround, VotesOnGround}
use Rattle.simplex_record.specs.Rules.{MayNotarize, MayNullify, MayFinalize}
use Rattle.voter_history.specs.declared.timeout_reason.TimeoutReason.{TimeoutReason}
use Rattle.voter_history.specs.declared.timeout_reason.TimeoutReason.TheVariants as reason
use Rattle.voter_history.specs.Held.{IsTainted, Agrees, held}
use Rattle.voter_history.specs.Past as past
use Rattle.voter_history.specs.History.{Setup, Point, notarized, nullified, finalized, judged, built, latched, voted_notarize, voted_nullify, voted_finalize, recalled_notarize, recalled_nullify, recalled_finalize, recalled_verdict, sent, based, polled, pruned, current, last_finalized, floor, seen}
use Rattle.voter_history.specs.Leaders.{is_in_window, inherits, leader}
use Rattle.voter_history.specs.Known.{Known, known}
use Rattle.voter_rules.specs.Ancestry.{Member, member, held_at, IsCovered, InWindow}
use Rattle.voter_rules.specs.Requests.{Scanned, BuildIsDue, IsSuperseded, VerifyIsDue, IsInvalid, AsksNothing, NullificationIsWanted, NotarizationIsWanted, CertifyIsDue, CertificateIsWanted}
use Rattle.voter_rules.specs.VotesDue.{NotarizeIsDue, FinalizeIsDue}
use Rattle.voter_rules.specs.GivingUp.{NullifyIsDue, MayLatch, timeout}

-- the round of a view
abbrev pub round_of : {S C : Type 0} → Setup S C → ℕ → Round
round_of s view = record { epoch = s.epoch; view = view }

module _ {S D P G C : Type 0} where
  -- what the points say in the member's record, the newest first: the certificates that were taken, the verdicts that came, and the
  -- own votes, of which a repeated nullify is none
  abbrev pub told : Setup S C → List (Point S D P G C) → List (Entry D)
  told s [] = []
  told s (notarized c ∷ h) = recorded.taken (notarize c.proposal) ∷ told s h
  told s (nullified now c ∷ h) = recorded.taken (nullify c.round) ∷ told s h
  told s (finalized now c ∷ h) = recorded.taken (finalize c.proposal) ∷ told s h
  told s (judged now view ok ∷ h) = recorded.judged (round_of s view) ok ∷ told s h
  told s (voted_notarize view p ∷ h) = recorded.voted (notarize p) ∷ told s h
  told s (voted_nullify view ∷ h) = if past.has_nullified (seen s h view) then told s h else recorded.voted (nullify (round_of s view)) ∷ told s h
  told s (voted_finalize view p ∷ h) = recorded.voted (finalize p) ∷ told s h
  told s (recalled_notarize p taken ∷ h) = recorded.voted (notarize p) ∷ told s h
  told s (recalled_nullify view ∷ h) = recorded.voted (nullify (round_of s view)) ∷ told s h
  told s (recalled_finalize p ∷ h) = recorded.voted (finalize p) ∷ told s h
  told s (x ∷ h) = told s h

  -- the record: the oldest first
  abbrev pub record_of : Setup S C → List (Point S D P G C) → List (Entry D)
  record_of s h = reverse (told s h)

  -- an own proposal stands only where it was taken: nothing or the same was held
  abbrev pub OwnWereTaken : Setup S C → List (Point S D P G C) → Type 0
  OwnWereTaken s [] = ⊤
  OwnWereTaken s (built now p payload ∷ h) = Agrees (held (past.offers (seen s h p.round.view))) p × OwnWereTaken s h
  OwnWereTaken s (recalled_notarize p taken ∷ h) = (IsTrue taken → Agrees (held (past.offers (seen s h p.round.view))) p) × OwnWereTaken s h
  OwnWereTaken s (x ∷ h) = OwnWereTaken s h

  -- a history as its owner keeps it: it began; own proposals stand where they were taken; votes are on proposals of their views; a
  -- verdict that was recalled was given too
  pub record IsOrderly (s : Setup S C) (h : List (Point S D P G C)) : Type 0 where
    pub began : 1 ≤ current s h
    pub taken : OwnWereTaken s h
    pub notarizes : (view : ℕ) (p : Proposal D) → Contains h (voted_notarize view p) → p.round.view ≡ view
    pub finalizes : (view : ℕ) (p : Proposal D) → Contains h (voted_finalize view p) → p.round.view ≡ view
    pub verdicts : (view : ℕ) (ok : Bool) → Contains h (recalled_verdict view ok) → (now : ℕ) × Contains h (judged now view ok)

module _ {D : Type 0} (m : Member) where
  -- what is known is what the record says, as far as votes rest on it: the record begins behind no view above the known one; of
  -- what covers all that is known is recorded; of the views that are kept each recorded vote is known, each known notarization and
  -- true verdict is recorded, and where nothing contradicts the held proposal it is that of each recorded certificate
  pub record Matches (k : Known D) (r : List (Entry D)) : Type 0 where
    pub current : k.current ≡ current_view m.length r
    pub last_finalized : k.last_finalized ≡ recorded.last_finalized r
    pub floor : recorded.floor r ≤ k.floor
    pub covered : (view : ℕ) → IsCovered m k view → recorded.IsCovered m.length r view
    pub own_notarize : (p : Proposal D) → HasVoted r (notarize p) → recorded.IsKept m.retention r p.round.view → k.has_notarized p.round.view ≡ true
    pub own_nullify : (x : Round) → HasVoted r (nullify x) → recorded.IsKept m.retention r x.view → k.has_nullified x.view ≡ true
    pub own_finalize : (p : Proposal D) → HasVoted r (finalize p) → recorded.IsKept m.retention r p.round.view → k.has_finalized p.round.view ≡ true
    pub notarized : (view : ℕ) (p : Proposal D) → k.notarized view ≡ Some p → (p.round.view ≡ view) × HasTaken r (notarize p)
    pub finalized : (view : ℕ) (p : Proposal D) → k.finalized view ≡ Some p → (p.round.view ≡ view) × HasTaken r (finalize p)
    pub certified : (view : ℕ) → k.verdict view ≡ Some true → (x : Round) × (x.view ≡ view) × HasJudged r x true
    pub supported : (p : Proposal D) → HasTaken r (notarize p) ⊎ HasTaken r (finalize p) → recorded.IsKept m.retention r p.round.view
        → ¬ IsTainted (k.offers p.round.view) → held_at m k p.round.view ≡ Some p

  -- the held proposal lies in its view, and was bound to its parent's payload
  pub record IsBound (k : Known D) (view : ℕ) (p : Proposal D) : Type 0 where
    pub held : held_at m k view ≡ Some p
    pub at : p.round.view ≡ view
    pub payload : D
    pub bound : k.binding view ≡ Some (p, payload)

  -- the same is known of all views from the last finalized one on, and of what covers above it; that view is finalized, or the start
  pub record AgreeAbove (k j : Known D) : Type 0 where
    pub current : k.current ≡ j.current
    pub last_finalized : k.last_finalized ≡ j.last_finalized
    pub floor : k.floor ≡ j.floor
    pub genesis : k.genesis ≡ j.genesis
    pub ahead : k.last_finalized ≤ k.current
    pub anchored : (k.last_finalized ≡ 0) ⊎ (IsSome (k.finalized k.last_finalized) × IsSome (held_at m k k.last_finalized))
    pub covered : (view : ℕ) → k.last_finalized < view → IsCovered m k view ↔ IsCovered m j view
    pub leader : (view : ℕ) → k.last_finalized ≤ view → k.leader view ≡ j.leader view
    pub offers : (view : ℕ) → k.last_finalized ≤ view → k.offers view ≡ j.offers view
    pub notarized : (view : ℕ) → k.last_finalized ≤ view → k.notarized view ≡ j.notarized view
    pub finalized : (view : ℕ) → k.last_finalized ≤ view → k.finalized view ≡ j.finalized view
    pub verdict : (view : ℕ) → k.last_finalized ≤ view → k.verdict view ≡ j.verdict view
    pub has_notarized : (view : ℕ) → k.last_finalized ≤ view → k.has_notarized view ≡ j.has_notarized view
    pub has_nullified : (view : ℕ) → k.last_finalized ≤ view → k.has_nullified view ≡ j.has_nullified view
    pub has_finalized : (view : ℕ) → k.last_finalized ≤ view → k.has_finalized view ≡ j.has_finalized view
    pub is_backed : (view : ℕ) → k.last_finalized ≤ view → k.is_backed view ≡ j.is_backed view
    pub last_asked : (view : ℕ) → k.last_finalized ≤ view → k.last_asked view ≡ j.last_asked view
    pub binding : (view : ℕ) → k.last_finalized ≤ view → k.binding view ≡ j.binding view
    pub certify_asked : (view : ℕ) → k.last_finalized ≤ view → k.certify_asked view ≡ j.certify_asked view
    pub certify_waited : (view : ℕ) → k.last_finalized ≤ view → k.certify_waited view ≡ j.certify_waited view

  -- the same votes and requests are due in the view
  pub record AreDueAlike (k j : Known D) (view : ℕ) : Type 0 where
    pub notarize : NotarizeIsDue m k view → NotarizeIsDue m j view
    pub finalize : FinalizeIsDue m k view → FinalizeIsDue m j view
    pub build : (parent : ℕ) (payload : D) → BuildIsDue m k view parent payload → BuildIsDue m j view parent payload
    pub verify : (p : Proposal D) (payload : D) → VerifyIsDue m k view p payload → VerifyIsDue m j view p payload
    pub superseded : (parent : ℕ) (payload : D) → IsSuperseded m k view parent payload → IsSuperseded m j view parent payload
    pub invalid : (p : Proposal D) → IsInvalid m k view p → IsInvalid m j view p
    pub nullification : (p : Proposal D) (u : ℕ) → NullificationIsWanted m k view p u → NullificationIsWanted m j view p u
    pub notarization : (p : Proposal D) → NotarizationIsWanted m k view p → NotarizationIsWanted m j view p
    pub certify : (p : Proposal D) → CertifyIsDue m k view p → CertifyIsDue m j view p
    pub certificate : (required : ℕ) → CertificateIsWanted m k view required → CertificateIsWanted m j view required

-- The laws, as statements. Each is proved as a clause of a function without a body (`laws.rt`): what stands in no clause there is
-- not proved.

-- a notarize that is due may be recorded, where the held proposal was bound to its parent's payload
abbrev pub DueMayBeNotarized : Type 0 → Type 0
DueMayBeNotarized D = (m : Member) (k : Known D) (r : List (Entry D)) (view : ℕ) (p : Proposal D)
    → Matches m k r → IsBound m k view p → NotarizeIsDue m k view → MayNotarize m.length r p

-- a finalize that is due may be recorded
abbrev pub DueMayBeFinalized : Type 0 → Type 0
DueMayBeFinalized D = (m : Member) (k : Known D) (r : List (Entry D)) (view : ℕ) (p : Proposal D)
    → Matches m k r → held_at m k view ≡ Some p → FinalizeIsDue m k view → MayFinalize m.length r p

-- a notarize that is due stands on ground, and so does a true verdict on a proposal on which one is to be asked for, unless the
-- committee has one member
abbrev pub DueNotarizeIsOnGround : Type 0 → Type 0
DueNotarizeIsOnGround D = (m : Member) (k : Known D) (r : List (Entry D)) (view i : ℕ) (p : Proposal D)
    → m.me ≡ Some i → Matches m k r → IsBound m k view p → NotarizeIsDue m k view → VotesOnGround m.length m.scheduled i r p

abbrev pub DueVerdictIsOnGround : Type 0 → Type 0
DueVerdictIsOnGround D = (m : Member) (k : Known D) (r : List (Entry D)) (view size : ℕ) (p : Proposal D)
    → size ≢ 1 → Matches m k r → CertifyIsDue m k view p → JudgesOnGround size m.length r p.round

-- where the same is known from the last finalized view on, the same is due above it
abbrev pub WhatAgreesIsDueAlike : Type 0 → Type 0
WhatAgreesIsDueAlike D = (m : Member) (k j : Known D) (view : ℕ) → AgreeAbove m k j → k.last_finalized < view → AreDueAlike m k j view

module _ (S D P G C : Type 0) where
  -- a nullify that is due and isn't a repetition may be recorded
  abbrev pub DueMayBeNullified : Type 0
  DueMayBeNullified = (s : Setup S C) (h : List (Point S D P G C)) (r : List (Entry D)) (now : ℕ)
      → Matches (member s) (known s h) r → NullifyIsDue s h now → past.has_nullified (seen s h (current s h)) ≡ false
      → MayNullify s.length r (round_of s (current s h))

  -- what is known at the end of an orderly history is what its record says
  abbrev pub EachHistoryMatches : Type 0
  EachHistoryMatches = (s : Setup S C) (h : List (Point S D P G C)) → IsOrderly s h → Matches (member s) (known s h) (record_of s h)

  -- a reason to give a view up changes nothing else that is due
  abbrev pub LatchChangesNothing : Type 0
  LatchChangesNothing = (s : Setup S C) (h : List (Point S D P G C)) (now view : ℕ) (why : TimeoutReason) → known s (latched now view why ∷ h) ≡ known s h

  -- nor does a look at the next timeout, that a certificate was handed out, or a nullify that is voted once more
  abbrev pub PollChangesNothing : Type 0
  PollChangesNothing = (s : Setup S C) (h : List (Point S D P G C)) (now : ℕ) → known s (polled now ∷ h) ≡ known s h

  abbrev pub SendChangesNothing : Type 0
  SendChangesNothing = (s : Setup S C) (h : List (Point S D P G C)) (k : Kind) (view : ℕ) → known s (sent k view ∷ h) ≡ known s h

  abbrev pub RepetitionChangesNothing : Type 0
  RepetitionChangesNothing = (s : Setup S C) (h : List (Point S D P G C)) (view : ℕ)
      → past.has_nullified (seen s h view) ≡ true → known s (voted_nullify view ∷ h) ≡ known s h

  -- that the record begins behind a view changes nothing else of what is known
  abbrev pub BaseChangesFloorAlone : Type 0
  BaseChangesFloorAlone = (s : Setup S C) (h : List (Point S D P G C)) (view : ℕ) → known s (based view ∷ h) ≡ record (known s h) { floor = max view (floor s h) }

  -- dropping the views that need not be kept changes nothing that is due above the last finalized one
  abbrev pub PruneChangesNothing : Type 0
  PruneChangesNothing = (s : Setup S C) (h : List (Point S D P G C)) (view : ℕ) → last_finalized h < view
      → AreDueAlike (member s) (known s h) (known s (pruned ∷ h)) view × AreDueAlike (member s) (known s (pruned ∷ h)) (known s h) view

  -- nor when and why the current view is given up, and which reasons for that count
  abbrev pub PruneKeepsTimeouts : Type 0
  PruneKeepsTimeouts = (s : Setup S C) (h : List (Point S D P G C)) (now : ℕ)
      → (timeout s (pruned ∷ h) now ≡ timeout s h now) × (NullifyIsDue s h now ↔ NullifyIsDue s (pruned ∷ h) now)
      × ((view : ℕ) (why : TimeoutReason) → MayLatch s h view why ↔ MayLatch s (pruned ∷ h) view why)

  -- the issuance window is the same for leaders and for all that is due
  abbrev pub WindowsAgree : Type 0
  WindowsAgree = (s : Setup S C) (h : List (Point S D P G C)) (view : ℕ) → InWindow (member s) (known s h) view ↔ (is_in_window s h view ≡ true)

  -- whoever leads a view leads the next one too, where that inherits: nothing more is to be learnt
  abbrev pub LeadersAreClosed : Type 0
  LeadersAreClosed = (s : Setup S C) (h : List (Point S D P G C)) (view i : ℕ)
      → inherits s h (view + 1) ≡ true → leader s h view ≡ Some i → IsSome (leader s h (view + 1))

  -- a look at the proposals that wait changes nothing that is due, and leaves nothing to be asked for those that it passed
  abbrev pub ScanChangesNothing : Type 0
  ScanChangesNothing = (s : Setup S C) (now first : ℕ) (h : List (Point S D P G C)) (view : ℕ) (end : List (Point S D P G C)) → Scanned s now first h view end → known s end ≡ known s h

  abbrev pub ScanLeavesNothing : Type 0
  ScanLeavesNothing = (s : Setup S C) (now first : ℕ) (h : List (Point S D P G C)) (view : ℕ) (end : List (Point S D P G C)) → Scanned s now first h view end
      → (u : ℕ) → first ≤ u → u < view → AsksNothing (member s) (known s end) u

  -- those that can never stand were given up for that, unless it would not have been the first reason
  abbrev pub ScanGivesUp : Type 0
  ScanGivesUp = (s : Setup S C) (now first : ℕ) (h : List (Point S D P G C)) (view : ℕ) (end : List (Point S D P G C)) → Scanned s now first h view end
      → (u : ℕ) (p : Proposal D) → first ≤ u → u < view → IsInvalid (member s) (known s end) u p
      → Contains end (latched now u reason.InvalidProposal) ⊎ (past.is_unlatched (seen s h u) ≡ false)

  -- so behind it no reason to give one of these up would be the first
  abbrev pub ScanLeavesNoReason : Type 0
  ScanLeavesNoReason = (s : Setup S C) (now first : ℕ) (h : List (Point S D P G C)) (view : ℕ) (end : List (Point S D P G C)) → Scanned s now first h view end
      → (u : ℕ) (p : Proposal D) → first ≤ u → u < view → IsInvalid (member s) (known s end) u p → past.is_unlatched (seen s end u) ≡ false

  -- and where it passed all that may be spoken of, nothing is to be asked for any
  abbrev pub WholeScanLeavesNothing : Type 0
  WholeScanLeavesNothing = (s : Setup S C) (now : ℕ) (h : List (Point S D P G C)) (view : ℕ) (end : List (Point S D P G C)) → Scanned s now (current s h) h view end
      → ((u : ℕ) → AdmitsOutbound s.length s.optimistic_views (current s h) u → u < view) → (u : ℕ) → AsksNothing (member s) (known s end) u
