-- At which list of offers a slot stands, and what its calls answer.
use Rattle.std.specs.Prelude.{◌≡◌, ◌≢◌, ◌↔◌, List, Option, Some, None, IsSome, IsTrue}
use Rattle.types_core.specs.declared.proposal.Proposal.{Proposal}
use Rattle.simplex_round.specs.declared.slot.Slot.{Slot}
use Rattle.simplex_round.specs.declared.slot.Status.{Status}
use Rattle.simplex_round.specs.declared.slot.Status.TheVariants as status
use Rattle.simplex_round.specs.declared.slot.Change.{Change}
use Rattle.simplex_round.specs.declared.slot.Change.TheVariants as change
use Rattle.voter_history.specs.Held.{Offer, held, IsTainted, IsConfirmed, IsVerified, IsUnverified, IsBuildAsked, IsVerifyAsked}

module _ {D : Type 0} where
  -- the status by what was offered: exactly one holds
  abbrev pub HasStatus : List (Offer D) → Status → Type 0
  HasStatus h status.None = (held h ≡ None) × (¬ IsTainted h) × (¬ IsConfirmed h)
  HasStatus h status.Unverified = IsUnverified h
  HasStatus h status.Verified = IsVerified h
  HasStatus h status.Equivocated = IsSome (held h) × IsTainted h

  -- the slot stands where these offers lead
  pub record IsKept (slot : Slot D) (h : List (Offer D)) : Type 0 where
    pub proposal : slot.proposal ≡ held h
    pub status : HasStatus h slot.status
    pub build : IsTrue slot.requested_build ↔ IsBuildAsked h
    pub verify : IsTrue slot.requested_verify ↔ IsVerifyAsked h

  -- the same, closed for those who stand above
  unfoldable pub Keeps : Slot D → List (Offer D) → Type 0
  Keeps slot h = IsKept slot h

  -- what holds of each list of offers that leads to the slot
  abbrev pub AtEach : Slot D → (List (Offer D) → Type 0) → Type 0
  AtEach slot Q = (h : List (Offer D)) → Keeps slot h → Q h

  -- the new slot stands where this list of the old one's offers leads
  abbrev pub Becomes : Slot D → Slot D → (List (Offer D) → List (Offer D)) → Type 0
  Becomes old new grown = (h : List (Offer D)) → Keeps old h → Keeps new (grown h)

  -- what a proposal changed, where none was held, the same, or another: of this one `differs` says the rest
  abbrev pub IsChange : Option (Proposal D) → (Proposal D → Proposal D → Change D → Type 0) → Proposal D → Change D → Type 0
  IsChange None differs p c = c ≡ change.New
  IsChange (Some q) differs p change.New = ⊥
  IsChange (Some q) differs p change.Unchanged = q ≡ p
  IsChange (Some q) differs p c = (q ≢ p) × differs q p c

  -- a vote's proposal is dropped
  abbrev pub KeepsHeld : Proposal D → Proposal D → Change D → Type 0
  KeepsHeld q p c = c ≡ change.Equivocated p q

  -- a certificate's proposal takes the place
  abbrev pub TakesPlace : Proposal D → Proposal D → Change D → Type 0
  TakesPlace q p c = c ≡ change.Equivocated q p
