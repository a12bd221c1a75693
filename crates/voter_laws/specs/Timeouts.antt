-- When the current view is given up, as it goes on: statements.
use Rattle.std.specs.Prelude.{◌≡◌, ◌≢◌, ◌↔◌, ◌<◌, ◌≤◌, ℕ, true, false, List, [], ◌∷◌, Some, None, IsSome}
use Rattle.voter_history.specs.declared.timeout_reason.TimeoutReason.{TimeoutReason}
use Rattle.voter_history.specs.Past as past
use Rattle.voter_history.specs.History.{Setup, Point, polled, current, seen}
use Rattle.voter_rules.specs.GivingUp.{MayGiveUp, NullifyIsDue, timeout}

module _ (S D P G C : Type 0) where
  -- behind the start something happened to the current view
  abbrev pub CurrentIsSeen : Type 0
  CurrentIsSeen = (s : Setup S C) (h : List (Point S D P G C)) → 0 < current s h → seen s h (current s h) ≢ []

  -- behind a look at its timeout the current view has one, unless it is finalized, this member voted to finalize it, or its
  -- verdict is true
  abbrev pub CurrentHasTimeout : Type 0
  CurrentHasTimeout = (s : Setup S C) (h : List (Point S D P G C)) (now : ℕ)
      → 0 < current s h → past.finalization (seen s h (current s h)) ≡ None → past.has_finalized (seen s h (current s h)) ≡ false → ¬ (past.verdict (seen s h (current s h)) ≡ Some true)
      → IsSome (timeout s (polled now ∷ h) now)

  -- what the timeout names is the earliest moment: from now on a nullify is due just from there on
  abbrev pub TimeoutIsEarliest : Type 0
  TimeoutIsEarliest = (s : Setup S C) (h : List (Point S D P G C)) (now after : ℕ) → now ≤ after → MayGiveUp s h (current s h)
      → NullifyIsDue s h after ↔ ((x : ℕ × TimeoutReason) × (timeout s h now ≡ Some x) × (x.0 ≤ after))

  -- a look changes nothing of the timeout where it is known when a nullify that was voted is due again
  abbrev pub PollKeepsTimeout : Type 0
  PollKeepsTimeout = (s : Setup S C) (h : List (Point S D P G C)) (now moment : ℕ) → past.RetryIsKnown (seen s h (current s h))
      → timeout s (polled now ∷ h) moment ≡ timeout s h moment

  -- a second look at the timeout changes nothing of it
  abbrev pub PolledOnceIsPolled : Type 0
  PolledOnceIsPolled = (s : Setup S C) (h : List (Point S D P G C)) (now after moment : ℕ) → timeout s (polled after ∷ polled now ∷ h) moment ≡ timeout s (polled now ∷ h) moment
