-- What is to be asked for: builds, verifications, certificates that are missing, verdicts.
use Rattle.std.specs.Prelude.{◌≡◌, ◌≢◌, ◌⊎◌, ◌+◌, ◌<◌, ◌≤◌, ◌↔◌, ℕ, true, false, List, ◌∷◌, AllPairs, Contains, Option, Some, None, IsSome}
use Rattle.types_core.specs.declared.proposal.Proposal.{Proposal}
use Rattle.types_core.specs.Positions.{IsTermStart, HasRoom}
use Rattle.types_terms.specs.Windows.{AdmitsOutbound}
use Rattle.voter_history.specs.declared.handoff_abandoned_reason.HandoffAbandonedReason.{HandoffAbandonedReason}
use Rattle.voter_history.specs.declared.handoff_abandoned_reason.HandoffAbandonedReason.TheVariants as abandoned
use Rattle.voter_history.specs.declared.timeout_reason.TimeoutReason.TheVariants as reason
use Rattle.voter_history.specs.Held.{BuildIsOpen, IsVerifyAsked}
use Rattle.voter_history.specs.Past as past
use Rattle.voter_history.specs.History.{Setup, Point, latched, seen}
use Rattle.voter_history.specs.Known.{Known, known}
use Rattle.voter_rules.specs.Ancestry.{Member, member, held_at, explicit, InWindow, IsFirstUncovered, IsInvalidParent, IsSpan, IsParent, LacksPayload, IsPreferred, Leads, IsRequired}

module _ {D : Type 0} (m : Member) (k : Known D) where
  -- something may be asked for the view's proposal: the view isn't behind the current one, has room, and may be spoken of, and it
  -- wasn't given up here
  pub record IsOpen (view : ℕ) : Type 0 where
    pub from : k.current ≤ view
    pub room : HasRoom m.length view
    pub outbound : AdmitsOutbound m.length m.optimistic_views k.current view
    pub not_given_up : k.has_nullified view ≡ false

  -- building on this parent is a handoff: the view starts a term, and the parent isn't explicit with this payload
  pub record IsHandoff (view parent : ℕ) (payload : D) : Type 0 where
    pub starts : IsTermStart m.length view
    pub early : explicit m k parent ≢ Some payload

  -- a build on this parent is to be asked for: this member leads, nothing is held, no build was asked for but those given back,
  -- and it is the parent to build on. A handoff waits too while the current view is given up here
  pub record BuildIsDue (view parent : ℕ) (payload : D) : Type 0 where
    pub opens : IsOpen view
    pub leads : Leads m k view
    pub vacant : BuildIsOpen (k.offers view)
    pub preferred : IsPreferred m k view parent payload
    pub patient : IsHandoff view parent payload → k.has_nullified k.current ≡ false

  -- the parent that a build was asked for on may still be used: it is the one to build on, or the parent rule gives its payload
  abbrev pub IsCaptured : ℕ → ℕ → D → Type 0
  IsCaptured view parent payload = IsPreferred m k view parent payload ⊎ IsParent m k view parent payload

  -- a build is superseded: its parent may no longer be used, and there is another to build on
  pub record IsSuperseded (view parent : ℕ) (payload : D) : Type 0 where
    pub fallen : ¬ IsCaptured view parent payload
    pub other : (u : ℕ) × (x : D) × IsPreferred m k view u x

  -- why a handoff that was asked for on this parent is to stop: never where the parent is explicit with that payload; else since
  -- the current view is given up here; else since the parent may no longer be used
  abbrev pub StopsHandoff : ℕ → ℕ → D → Option HandoffAbandonedReason → Type 0
  StopsHandoff view parent payload None =
      (explicit m k parent ≡ Some payload) ⊎ ((k.has_nullified k.current ≡ false) × IsCaptured view parent payload)
  StopsHandoff view parent payload (Some abandoned.ParentNullify) = (explicit m k parent ≢ Some payload) × (k.has_nullified k.current ≢ false)
  StopsHandoff view parent payload (Some abandoned.AncestryInvalidated) =
      (explicit m k parent ≢ Some payload) × (k.has_nullified k.current ≡ false) × ¬ IsCaptured view parent payload
  StopsHandoff view parent payload (Some why) = ⊥

  -- this proposal waits for its parent alone, to be verified: another member leads, it is held, no verification was asked for, no
  -- differing certificate replaced what was held before, and no own notarize stands behind it
  pub record WaitsForParent (view : ℕ) (p : Proposal D) : Type 0 where
    pub opens : IsOpen view
    pub led : IsSome (k.leader view) × (k.leader view ≢ m.me)
    pub held : held_at m k view ≡ Some p
    pub first : ¬ IsVerifyAsked (k.offers view)
    pub not_backed : k.is_backed view ≡ false

  -- a verification of this proposal is to be asked for, over this payload of its parent
  pub record VerifyIsDue (view : ℕ) (p : Proposal D) (payload : D) : Type 0 where
    pub waits : WaitsForParent view p
    pub parent : IsParent m k view p.parent payload

  -- the view is to be given up for a proposal that can never stand
  pub record IsInvalid (view : ℕ) (p : Proposal D) : Type 0 where
    pub waits : WaitsForParent view p
    pub invalid : IsInvalidParent m k view p.parent

  -- the nullification of the first uncovered view behind the parent is to be asked for, unless that view was asked for last
  pub record NullificationIsWanted (view : ℕ) (p : Proposal D) (u : ℕ) : Type 0 where
    pub waits : WaitsForParent view p
    pub valid : ¬ IsInvalidParent m k view p.parent
    pub uncovered : IsFirstUncovered m k p.parent view u
    pub first : k.last_asked view ≢ Some u

  -- the notarization of the parent is to be asked for, since its payload is missing outside the window, unless it was asked for last
  pub record NotarizationIsWanted (view : ℕ) (p : Proposal D) : Type 0 where
    pub waits : WaitsForParent view p
    pub lacks : LacksPayload m k view p.parent
    pub outside : ¬ InWindow m k view
    pub first : k.last_asked view ≢ Some p.parent

  -- a verdict on this proposal is open: the view has room, it is notarized for it above the last finalized view, there is no verdict,
  -- none was asked for, the parent lies below, and where a parent is required that may be stood on
  pub record VerdictIsOpen (view : ℕ) (p : Proposal D) : Type 0 where
    pub room : HasRoom m.length view
    pub above : k.last_finalized < view
    pub notarized : k.notarized view ≡ Some p
    pub without : k.verdict view ≡ None
    pub first : k.certify_asked view ≡ false
    pub below : p.parent < view
    pub span : (required : ℕ) → IsRequired m k view p.parent required → IsSpan m k view p.parent

  -- a verdict is to be asked for: where a parent is required that is explicit
  pub record CertifyIsDue (view : ℕ) (p : Proposal D) : Type 0 where
    pub opens : VerdictIsOpen view p
    pub explicit : (required : ℕ) → IsRequired m k view p.parent required → IsSome (explicit m k required)

  -- it waits for its required parent alone
  pub record CertifyWaits (view required : ℕ) : Type 0 where
    pub proposal : Proposal D
    pub opens : VerdictIsOpen view proposal
    pub requires_it : IsRequired m k view proposal.parent required
    pub missing : explicit m k required ≡ None

  -- it is put off: it begins to wait for its required parent
  pub record IsPutOff (view required : ℕ) : Type 0 where
    pub waits : CertifyWaits view required
    pub first : k.certify_waited view ≡ false

  -- something may be to ask for the view's verdict: it is open on this proposal, and if it was put off, the required parent is explicit
  pub record MayBeAsked (view : ℕ) (p : Proposal D) : Type 0 where
    pub opens : VerdictIsOpen view p
    pub woken : k.certify_waited view ≡ true → (required : ℕ) → IsRequired m k view p.parent required → IsSome (explicit m k required)

  -- the notarization of the required parent is to be asked for: once, where it isn't there
  pub record CertificateIsWanted (view required : ℕ) : Type 0 where
    pub waits : CertifyWaits view required
    pub first : k.certify_waited view ≡ false
    pub absent : k.notarized required ≡ None

  -- nothing is to be asked for the view's proposal
  pub record AsksNothing (view : ℕ) : Type 0 where
    pub no_verify : (p : Proposal D) (payload : D) → ¬ VerifyIsDue view p payload
    pub no_nullification : (p : Proposal D) (u : ℕ) → ¬ NullificationIsWanted view p u
    pub no_notarization : (p : Proposal D) → ¬ NotarizationIsWanted view p

  -- nor is the view to be given up for it
  pub record IsPassed (view : ℕ) : Type 0 where
    pub asks : AsksNothing view
    pub not_invalid : (p : Proposal D) → ¬ IsInvalid view p

  -- the build to ask for: of the lowest view where one is
  pub record IsFirstBuild (view parent : ℕ) (payload : D) : Type 0 where
    pub due : BuildIsDue view parent payload
    pub lowest : (u : ℕ) → u < view → (p : ℕ) (x : D) → ¬ BuildIsDue u p x

  -- no build is to be asked for
  abbrev pub NoBuildIsDue : Type 0
  NoBuildIsDue = (view parent : ℕ) (payload : D) → ¬ BuildIsDue view parent payload

  -- the proposals on which verdicts are to be asked for, by their views, each once
  pub record AreReady (ready : List (Proposal D)) : Type 0 where
    pub exact : (p : Proposal D) → Contains ready p ↔ CertifyIsDue p.round.view p
    pub ascend : AllPairs (λ (p q : Proposal D). p.round.view < q.round.view) ready

  -- the views whose verdicts are put off, ascending, each once
  pub record ArePutOff (views : List ℕ) : Type 0 where
    pub exact : (view : ℕ) → Contains views view ↔ ((required : ℕ) × IsPutOff view required)
    pub ascend : AllPairs (λ (u w : ℕ). u < w) views

module _ {S D P G C : Type 0} (s : Setup S C) (now : ℕ) where
  -- the views from the current one up to this one were looked at, which led so far: those with a proposal that can never stand are
  -- given up, unless that would not be the first reason, and for the others nothing is to be asked
  pub data Scanned (first : ℕ) (h : List (Point S D P G C)) : ℕ → List (Point S D P G C) → Type 0 where
    begun : Scanned first h first h
    passed : {view : ℕ} {end : List (Point S D P G C)} → Scanned first h view end → IsPassed (member s) (known s end) view → Scanned first h (view + 1) end
    given_up : {view : ℕ} {end : List (Point S D P G C)} → Scanned first h view end → (p : Proposal D) × IsInvalid (member s) (known s end) view p
        → past.is_unlatched (seen s end view) ≡ true → Scanned first h (view + 1) (latched now view reason.InvalidProposal ∷ end)
    left_so : {view : ℕ} {end : List (Point S D P G C)} → Scanned first h view end → (p : Proposal D) × IsInvalid (member s) (known s end) view p
        → past.is_unlatched (seen s end view) ≡ false → Scanned first h (view + 1) end
