-- Where proposals lie, and what those that were found good are bound to. Behind that what follows for votes, as statements.
use Rattle.std.specs.Prelude.{◌≡◌, ℕ, true, false, List, [], ◌∷◌, Some, ⊤}
use Rattle.types_core.specs.declared.proposal.Proposal.{Proposal}
use Rattle.voter_history.specs.Held.{IsConfirmed, held}
use Rattle.voter_history.specs.Past as past
use Rattle.voter_history.specs.History.{Setup, Point, notarized, finalized, forwarded, built, confirmed, unbound, verify_asked, recalled_notarize, seen}
use Rattle.voter_history.specs.Known.{known}
use Rattle.voter_rules.specs.Ancestry.{member, held_at}
use Rattle.voter_rules.specs.VotesDue.{NotarizeIsDue}
use Rattle.voter_laws.specs.Matching.{IsBound, round_of}

module _ {S D P G C : Type 0} where
  -- the proposal of which a point tells is of the epoch, and of the view that the point names
  abbrev pub IsOfItsView : Setup S C → Point S D P G C → Type 0
  IsOfItsView s (notarized c) = c.proposal.round.epoch ≡ s.epoch
  IsOfItsView s (finalized now c) = c.proposal.round.epoch ≡ s.epoch
  IsOfItsView s (forwarded view p) = p.round ≡ round_of s view
  IsOfItsView s (built now p payload) = p.round.epoch ≡ s.epoch
  IsOfItsView s (recalled_notarize p taken) = p.round.epoch ≡ s.epoch
  IsOfItsView s x = ⊤

  -- so is that of each point
  abbrev pub AreOfTheirViews : Setup S C → List (Point S D P G C) → Type 0
  AreOfTheirViews s [] = ⊤
  AreOfTheirViews s (x ∷ h) = IsOfItsView s x × AreOfTheirViews s h

  -- a proposal was found good where it is bound, unless the view was given up here; a binding was dropped only where the proposal
  -- wasn't found good, or is voted for; and it was the held proposal that was to be verified
  abbrev pub AnswersWereBound : Setup S C → List (Point S D P G C) → Type 0
  AnswersWereBound s [] = ⊤
  AnswersWereBound s (confirmed view ∷ h) =
      ((p : Proposal D) → past.has_nullified (seen s h view) ≡ false → held (past.offers (seen s h view)) ≡ Some p → (payload : D) × (past.binding (seen s h view) ≡ Some (p, payload)))
      × AnswersWereBound s h
  AnswersWereBound s (unbound view ∷ h) = (IsConfirmed (past.offers (seen s h view)) → past.has_notarized (seen s h view) ≡ true) × AnswersWereBound s h
  AnswersWereBound s (verify_asked view p payload ∷ h) = (held (past.offers (seen s h view)) ≡ Some p) × AnswersWereBound s h
  AnswersWereBound s (x ∷ h) = AnswersWereBound s h

module _ (S D P G C : Type 0) where
  -- the held proposal lies in its view and in the epoch
  abbrev pub HeldLiesInItsView : Type 0
  HeldLiesInItsView = (s : Setup S C) (h : List (Point S D P G C)) (view : ℕ) (p : Proposal D)
      → AreOfTheirViews s h → held_at (member s) (known s h) view ≡ Some p → p.round ≡ round_of s view

  -- where a notarize is due, the held proposal is bound to its parent's payload
  abbrev pub DueNotarizeIsBound : Type 0
  DueNotarizeIsBound = (s : Setup S C) (h : List (Point S D P G C)) (view : ℕ) (p : Proposal D)
      → AreOfTheirViews s h → AnswersWereBound s h → NotarizeIsDue (member s) (known s h) view → held_at (member s) (known s h) view ≡ Some p → IsBound (member s) (known s h) view p
