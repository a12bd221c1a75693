-- Records that begin at a floor, and are rewritten: what follows from the member model, as statements. Each is proved where a function
-- without a body has it as a clause (`laws.rt`).
use Rattle.std.specs.Prelude.{◌≡◌, ◌≢◌, ◌<◌, ◌≤◌, ◌++◌, ℕ, Bool, List, [], ◌∷◌, Contains, Some}
use Rattle.types_core.specs.declared.scheme.Scheme.{Ghosts}
use Rattle.messages_certificates.specs.declared.artifact.Artifact.{Artifact}
use Rattle.messages_certificates.specs.declared.artifact.Artifact.TheVariants as artifact
use Rattle.messages_certificates.specs.ProposalCertificate.{Finalization}
use Rattle.messages_certificates.specs.ProposalVote.{Notarize}
use Rattle.simplex_messages.specs.declared.vote.Vote.{Vote}
use Rattle.simplex_messages.specs.VoteParts.{vote_round}
use Rattle.simplex_record.specs.Record.{current_view, entries, entry, floor, last_finalized}
use Rattle.simplex_record.specs.Rules.{reach}
use Rattle.simplex_record.specs.Kept.{StandsForAll}
use Rattle.simplex_record.specs.Lawful.{Fits, IsEverLawful, IsLawful, rewritten}
use Rattle.simplex_member.specs.Allowed.{Allowed, AreAllowed, VoteIsDue}
use Rattle.simplex_member.specs.declared.event.Event.TheVariants as event
use Rattle.simplex_member.specs.declared.refusal.Refusal.TheVariants as refusal
use Rattle.simplex_member.specs.Deeds.{deeds_of}
use Rattle.simplex_member.specs.First.{IsFirst}
use Rattle.simplex_member.specs.Laws.{IsExact}
use Rattle.simplex_member.specs.Layers.{current_of, finalized_of}
use Rattle.simplex_member.specs.Lives.{Life, Lives}
use Rattle.simplex_member.specs.Member.{AreOpening, Goes, NoneDue}
use Rattle.simplex_member.specs.Packet.{Formats}
use Rattle.simplex_member.specs.Point.{Point, Rewrote, History}
use Rattle.simplex_member.specs.Recorded.{kept_of, record_of, recorded_by}
use Rattle.simplex_member.specs.Refusals.{tests}
use Rattle.simplex_member.specs.Setup.{Setup, IsInTime, owner_of}

module _ {S D P G C : Type 0} (g : Ghosts S D P G C) (f : Formats S D P G C) (s : Setup S D C) where
  -- ---- of one opening

  -- what a rewrite does: what is kept is then the finalization, and behind it in its order what reached above it, of the same current view
  -- and the same last finalized one, which is the view of the finalization; what the voter knows of both stays; and nothing is handed out
  pub record IsRewriteOf (h : History S D P G C) (c : Finalization S D P G C) : Type 0 where
    pub was_kept : Contains (kept_of s.voter.length h) (artifact.Finalization c)
    pub last : c.proposal.round.view ≡ last_finalized (entries (kept_of s.voter.length h))
    pub kept : kept_of s.voter.length (Rewrote c ∷ h) ≡ rewritten s.voter.length c (kept_of s.voter.length h)
    pub begins : floor (entries (kept_of s.voter.length (Rewrote c ∷ h))) ≡ c.proposal.round.view
    pub final : last_finalized (entries (kept_of s.voter.length (Rewrote c ∷ h))) ≡ last_finalized (entries (kept_of s.voter.length h))
    pub entered : current_view s.voter.length (entries (kept_of s.voter.length (Rewrote c ∷ h))) ≡ current_view s.voter.length (entries (kept_of s.voter.length h))
    pub current : current_of s (Rewrote c ∷ h) ≡ current_of s h
    pub finalized : finalized_of s (Rewrote c ∷ h) ≡ finalized_of s h
    pub record_is : record_of (Rewrote c ∷ h) ≡ record_of h
    pub silent : deeds_of g f s h (Rewrote c) ≡ []

  abbrev pub RewritesAreSo : Type 0
  RewritesAreSo = (h : History S D P G C) (c : Finalization S D P G C) → Allowed g f s h (Rewrote c) → IsRewriteOf h c

  -- of the views that a rewrite dropped no verdict is awaited, nor is one a second one: what is kept alone tells of verdicts
  abbrev pub DroppedAreUnknown : Type 0
  DroppedAreUnknown = (h : History S D P G C) (c : Finalization S D P G C) (view : ℕ) (ok : Bool) → AreAllowed g f s (Rewrote c ∷ h) → view ≤ c.proposal.round.view
      → IsFirst (tests g f s (Rewrote c ∷ h) (event.Verdict view ok)) (Some refusal.UnknownAnswer)

  -- what is kept tells what all tells that the opening found and that was recorded since: each artifact of it is one of these, it has
  -- those of these that reach above the last finalized view, and it begins behind no view above that
  pub record TellsAll (h : History S D P G C) : Type 0 where
    pub within : (x : Artifact S D P G C) → Contains (kept_of s.voter.length h) x → Contains (record_of h) x
    pub above : (x : Artifact S D P G C) → Contains (record_of h) x → finalized_of s h < reach s.voter.length (entry x) → Contains (kept_of s.voter.length h) x
    pub floors : floor (entries (kept_of s.voter.length h)) ≤ finalized_of s h

  abbrev pub KeptTellsAll : Type 0
  KeptTellsAll = (h : History S D P G C) → AreAllowed g f s h → TellsAll h

  -- what is kept stands for all of that: it was recorded, all that reaches above the view behind which it begins is there, and both are of
  -- one current view and one last finalized view
  abbrev pub KeptStandsForAll : Type 0
  KeptStandsForAll = (h : History S D P G C) → AreAllowed g f s h → StandsForAll s.voter.length (entries (record_of h)) (entries (kept_of s.voter.length h))

  -- what is kept is of the voter's current view and of its last finalized one, which lies below that
  pub record IsOfViews (h : History S D P G C) : Type 0 where
    pub current : current_of s h ≡ current_view s.voter.length (entries (kept_of s.voter.length h))
    pub final : finalized_of s h ≡ last_finalized (entries (kept_of s.voter.length h))
    pub ahead : finalized_of s h < current_of s h

  abbrev pub KeptIsOfViews : Type 0
  KeptIsOfViews = (h : History S D P G C) → AreAllowed g f s h → h ≢ [] → IsOfViews h

  -- what is kept is a lawful record
  abbrev pub KeptIsLawful : Type 0
  KeptIsLawful = (h : History S D P G C) → AreAllowed g f s h → IsLawful (g.attests s.voter.scheme) (g.certifies s.voter.scheme) (owner_of s) (kept_of s.voter.length h)

  -- what a point records may stand behind what is kept
  abbrev pub NextFitsKept : Type 0
  NextFitsKept = (h : History S D P G C) (p : Point S D P G C) (x : Artifact S D P G C) → AreAllowed g f s (p ∷ h) → recorded_by p ≡ Some x
      → Fits (g.attests s.voter.scheme) (g.certifies s.voter.scheme) (owner_of s) (kept_of s.voter.length h) x

  -- where nothing is due, nothing is due behind a rewrite
  abbrev pub RewritesLeaveNothingDue : Type 0
  RewritesLeaveNothingDue = (h : History S D P G C) (c : Finalization S D P G C) → NoneDue g f s h → NoneDue g f s (Rewrote c ∷ h)

  -- no vote is due of a view at or below that behind which the record begins, be it since the last rewrite
  abbrev pub NoneIsDueBelow : Type 0
  NoneIsDueBelow = (h : History S D P G C) (v : Vote S D P G C) → AreAllowed g f s h → VoteIsDue g f s h v
      → floor (entries (kept_of s.voter.length h)) < (vote_round v).view

  -- a lawful record is opened at any moment that lies early enough: an opening goes through all of it, and leaves it as it was
  abbrev pub LawfulIsOpened : Type 0
  LawfulIsOpened = (now : ℕ) (found : List (Artifact S D P G C)) → IsExact f → IsInTime s now
      → IsLawful (g.attests s.voter.scheme) (g.certifies s.voter.scheme) (owner_of s) found
      → (points : List (Point S D P G C)) × (end : History S D P G C) × AreOpening g f s now found points × Goes g f s [] points end
      × (kept_of s.voter.length end ≡ found)

  -- ---- of lives

  -- all that a member ever recorded is lawful, and what is left of it stands for all
  pub record IsLeftOf (all left : List (Artifact S D P G C)) : Type 0 where
    pub lawful : IsEverLawful (g.attests s.voter.scheme) (g.certifies s.voter.scheme) (owner_of s) all
    pub stands : StandsForAll s.voter.length (entries all) (entries left)

  abbrev pub LivesLeaveAll : Type 0
  LivesLeaveAll = (lives : List (Life S D P G C)) (all left : List (Artifact S D P G C)) → Lives g f s [] [] lives all left → IsLeftOf all left

  -- each vote to notarize names a parent at or above the view behind which all begins that its member ever recorded
  abbrev pub ParentsLieFromFloor : Type 0
  ParentsLieFromFloor = (lives : List (Life S D P G C)) (all left before behind : List (Artifact S D P G C)) (v : Notarize S D P G C) → Lives g f s [] [] lives all left
      → all ≡ before ++ artifact.Notarize v ∷ behind → floor (entries before) ≤ v.proposal.parent
