-- Which payload a proposal may stand on.
use Rattle.std.specs.Prelude.{◌≡◌, ◌≢◌, ◌⊎◌, ◌+◌, ◌<◌, ◌≤◌, ◌||◌, ◌==◌, ℕ, Bool, true, false, Option, Some, None, is_some, IsSome, option_map, if◌then◌else◌}
use Rattle.std.specs.Option.{option_or, ForSome}
use Rattle.types_core.specs.declared.proposal.Proposal.{Proposal}
use Rattle.types_core.specs.Positions.{IsTermStart, InCoveringRange}
use Rattle.types_terms.specs.Windows.{issuance_floor}
use Rattle.voter_history.specs.Held.{held, IsVerified}
use Rattle.voter_history.specs.Past.{verdict_is_true, verdict_is_false}
use Rattle.voter_history.specs.History.{Setup, scheduled_leader}
use Rattle.voter_history.specs.Known.{Known}

-- what stays the same of a member, as far as what is due rests on it: its index, the views of a term and how many are optimistic,
-- how many finalized ones are kept, and whom a schedule names for a view
pub record Member : Type 0 where
  pub me : Option ℕ
  pub length : ℕ
  pub optimistic_views : ℕ
  pub retention : ℕ
  pub scheduled : ℕ → Option ℕ

abbrev pub member : {S C : Type 0} → Setup S C → Member
member s = record { me = s.me; length = s.length; optimistic_views = s.optimistic_views; retention = s.retention; scheduled = scheduled_leader s }

-- a schedule names this member for the view
pub record LeadsBySchedule (m : Member) (view : ℕ) : Type 0 where
  pub some : IsSome m.me
  pub named : m.scheduled view ≡ m.me

module _ {D : Type 0} (m : Member) (k : Known D) where
  -- the proposal that a view holds
  abbrev pub held_at : ℕ → Option (Proposal D)
  held_at view = held (k.offers view)

  -- a view is covered: it is nullified, or an earlier view of its term is
  abbrev pub IsCovered : ℕ → Type 0
  IsCovered view = (u : ℕ) × InCoveringRange m.length view u × (k.nullified u ≡ true)

  -- each view strictly between is covered
  abbrev pub AreCoveredBetween : ℕ → ℕ → Type 0
  AreCoveredBetween parent view = (u : ℕ) → parent < u → u < view → IsCovered u

  -- the least view strictly between that isn't covered
  pub record IsFirstUncovered (parent view u : ℕ) : Type 0 where
    pub after : parent < u
    pub before : u < view
    pub bare : ¬ IsCovered u
    pub least : AreCoveredBetween parent u

  -- the explicit payload of a view: that of the start, or of the held proposal where it is finalized or its verdict true
  abbrev pub explicit : ℕ → Option D
  explicit view =
      if view == 0 then k.genesis
      else (if is_some (k.finalized view) || verdict_is_true (k.verdict view) then option_map (λ (p : Proposal D). p.payload) (held_at view) else None)

  -- a view has a notarization or finalization
  abbrev pub has_certificate : ℕ → Bool
  has_certificate view = is_some (k.notarized view) || is_some (k.finalized view)

  -- a view is in the issuance window, so that it may be taken up before the views before it are certified: it starts no term, and
  -- at most the optimistic views lie between it and one with a certificate, or the start
  pub record InWindow (view : ℕ) : Type 0 where
    pub optimism : m.optimistic_views ≢ 0
    pub inside : ¬ IsTermStart m.length view
    pub anchor : (issuance_floor m.optimistic_views view ≡ 0)
        ⊎ ((u : ℕ) × (issuance_floor m.optimistic_views view ≤ u) × (u < view) × (has_certificate u ≡ true))

  -- this member may build at the start of the next term before the view that ends this one is decided: a schedule names it for
  -- that start, and the view isn't covered
  pub record IsHandoffParent (view : ℕ) : Type 0 where
    pub ends : IsTermStart m.length (view + 1)
    pub leads : LeadsBySchedule m (view + 1)
    pub bare : ¬ IsCovered view

  -- the payload that a view's certificates support: the finalization's, or the notarization's without a false verdict
  abbrev pub certificate_payload : ℕ → Option D
  certificate_payload view =
      option_map (λ (p : Proposal D). p.payload) (option_or (k.finalized view) (if verdict_is_false (k.verdict view) then None else k.notarized view))

  -- a view of the term up to this one, above the last finalized view, has a false verdict
  abbrev pub HasFailed : ℕ → Type 0
  HasFailed view = (u : ℕ) × InCoveringRange m.length view u × (k.last_finalized < u) × (k.verdict u ≡ Some false)

  -- a view without a certificate supports its held proposal by the own vote alone: the view behind it is in the window, or may be
  -- handed off; the proposal is verified and voted for; its parent is at or above the last finalized view, and what lies between
  -- is covered
  pub record IsVotedFor (view : ℕ) (p : Proposal D) : Type 0 where
    pub undecided : has_certificate view ≡ false
    pub reached : InWindow (view + 1) ⊎ IsHandoffParent view
    pub voted : k.has_notarized view ≡ true
    pub verified : IsVerified (k.offers view)
    pub held : held_at view ≡ Some p
    pub above : k.last_finalized ≤ p.parent
    pub below : p.parent < view
    pub covered : AreCoveredBetween p.parent view

  -- the optimistic payload of a view: that of the start; where it has a certificate, what this supports, unless a verdict of the
  -- term up to it is false; and else that of the proposal that is voted for, over the optimistic payload of its parent, which is
  -- the one it was bound to, if it was
  pub data Optimistic : ℕ → D → Type 0 where
    at_start : {payload : D} → k.genesis ≡ Some payload → Optimistic 0 payload
    by_certificate : {view : ℕ} {payload : D} → view ≢ 0 → has_certificate view ≡ true → ¬ HasFailed view
        → certificate_payload view ≡ Some payload
        → Optimistic view payload
    by_own_vote : {view : ℕ} {p : Proposal D} {payload : D} → view ≢ 0 → IsVotedFor view p → Optimistic p.parent payload
        → ForSome (k.binding view) (λ b. b.1 ≡ payload) → Optimistic view p.payload

  -- the payload with which a view's proposal may stand on this parent: inside the window the optimistic one, outside the explicit
  pub record Supports (view parent : ℕ) (payload : D) : Type 0 where
    pub inside : InWindow view → Optimistic parent payload
    pub outside : ¬ InWindow view → explicit parent ≡ Some payload

  -- a proposal can never stand on this parent: it isn't below the view, or it is below the last finalized view, or a view between
  -- is passed over inside a term
  abbrev pub IsInvalidParent : ℕ → ℕ → Type 0
  IsInvalidParent view parent = (view ≤ parent) ⊎ ((parent < k.last_finalized) ⊎ ((¬ IsTermStart m.length view) × (view ≢ parent + 1)))

  -- a proposal may stand on this parent, once that has a payload
  pub record IsSpan (view parent : ℕ) : Type 0 where
    pub below : parent < view
    pub above : k.last_finalized ≤ parent
    pub next : IsTermStart m.length view ⊎ (view ≡ parent + 1)
    pub covered : AreCoveredBetween parent view

  -- the parent rule: a view's proposal may stand on this parent with this payload
  pub record IsParent (view parent : ℕ) (payload : D) : Type 0 where
    pub span : IsSpan view parent
    pub supports : Supports view parent payload

  -- the parent rule lacks the parent's payload alone
  pub record LacksPayload (view parent : ℕ) : Type 0 where
    pub span : IsSpan view parent
    pub missing : (payload : D) → ¬ Supports view parent payload

  -- the parent that a view inside a term is built on: the view before
  pub record IsPredecessor (view parent : ℕ) (payload : D) : Type 0 where
    pub inside : ¬ IsTermStart m.length view
    pub next : view ≡ parent + 1
    pub supports : Supports view parent payload

  -- the parent that a term's start is built on: the highest explicit view below, where each view between is covered
  pub record IsLastCertified (view parent : ℕ) (payload : D) : Type 0 where
    pub starts : IsTermStart m.length view
    pub below : parent < view
    pub there : explicit parent ≡ Some payload
    pub highest : (u : ℕ) → parent < u → u < view → explicit u ≡ None
    pub covered : AreCoveredBetween parent view

  -- or else the view before, where it may be handed off
  pub record IsHandedOver (view parent : ℕ) (payload : D) : Type 0 where
    pub starts : IsTermStart m.length view
    pub no_other : (u : ℕ) (other : D) → ¬ IsLastCertified view u other
    pub next : view ≡ parent + 1
    pub handoff : IsHandoffParent parent
    pub there : Optimistic parent payload

  -- the parent that a view is built on
  abbrev pub IsPreferred : ℕ → ℕ → D → Type 0
  IsPreferred view parent payload = IsPredecessor view parent payload ⊎ (IsLastCertified view parent payload ⊎ IsHandedOver view parent payload)

  -- this member leads the view, as far as is known
  pub record Leads (view : ℕ) : Type 0 where
    pub some : IsSome m.me
    pub known : k.leader view ≡ m.me

  -- a binding stands: it names the held proposal, and the parent rule, or for the leader the parent that it would build on, still
  -- gives the bound payload
  pub record Stands (view : ℕ) (b : Proposal D × D) : Type 0 where
    pub held : held_at view ≡ Some b.0
    pub parent : IsParent view b.0.parent b.1 ⊎ (Leads view × IsPreferred view b.0.parent b.1)

  -- what the view's proposal is bound to, if to anything, hasn't fallen
  abbrev pub IsSteady : ℕ → Type 0
  IsSteady view = ForSome (k.binding view) (Stands view)

  -- the view that has to be explicit before the view's proposal is certified or finalized: inside a term the view before; at a
  -- term's start the view before, where it is the parent, a schedule names this member for the view and it voted to notarize there
  pub record IsRequired (view parent required : ℕ) : Type 0 where
    pub next : view ≡ required + 1
    pub early : IsTermStart m.length view → (parent ≡ required) × LeadsBySchedule m view × (k.has_notarized view ≡ true)
