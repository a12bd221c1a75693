-- Who leads each view, as far as it is known.
use Rattle.std.specs.Prelude.{◌+◌, ◌-◌, ◌==◌, ◌&&◌, ◌||◌, not, nat_lt, nat_le, nat_eq, ℕ, zero, suc, Bool, false, List, [], ◌∷◌, Option, Some, None, if◌then◌else◌}
use Rattle.std.specs.Option.{option_or, option_eq}
use Rattle.types_core.specs.Positions.{next_term_start, term_start}
use Rattle.types_terms.specs.Windows.{issuance_floor}
use Rattle.voter_history.specs.Past as past
use Rattle.voter_history.specs.Pasts.{is_direct}
use Rattle.voter_history.specs.History.{Setup, Point, started, notarized, nullified, finalized, forwarded, pruned, scheduled_leader, is_marked, min_active, seen}

-- one of so many numbers from this one on passes
abbrev pub any_from : (ℕ → Bool) → ℕ → ℕ → Bool
any_from test low zero = false
any_from test low (suc n) = test (low + n) || any_from test low n

-- one view after the other: known before, named just now, or the leader of the view before
abbrev pub extend : (ℕ → Option ℕ) → (ℕ → Bool) → (ℕ → Option ℕ) → ℕ → Option ℕ
extend here from_before known zero = known zero
extend here from_before known (suc w) =
    option_or (known (suc w)) (option_or (here (suc w)) (if from_before (suc w) then extend here from_before known w else None))

module _ {S C : Type 0} where
  -- this member, where it may lead a view before the view before it is decided: it starts a term, and a schedule names this member
  abbrev pub handoff_leader : Setup S C → ℕ → Option ℕ
  handoff_leader s view = if (view == term_start s.length view) && option_eq nat_eq s.me (scheduled_leader s view) then s.me else None

module _ {S D P G C : Type 0} where
  -- the leader's proposal of a view was forwarded, whether it was taken or not
  abbrev pub forwards : Point S D P G C → ℕ → Bool
  forwards (forwarded at p) view = at == view
  forwards x view = false

  abbrev pub was_forwarded : Setup S C → List (Point S D P G C) → ℕ → Bool
  was_forwarded s h view = is_marked s forwards h view

  -- whom a point names for a view: the start names the leader of view 1, a certificate that of the view it leads to
  abbrev pub named : Setup S C → Point S D P G C → ℕ → Option ℕ
  named s (started now payload) view = if view == 1 then Some (s.elect 1 None) else None
  named s (notarized c) view = if view == c.proposal.round.view + 1 then Some (s.elect view (Some c.certificate)) else None
  named s (nullified now c) view = if view == next_term_start s.length c.round.view then Some (s.elect view (Some c.certificate)) else None
  named s (finalized now c) view = if view == c.proposal.round.view + 1 then Some (s.elect view (Some c.certificate)) else None
  named s x view = None

  -- that leader, once this member voted to notarize the view before
  abbrev pub named_early : Setup S C → List (Point S D P G C) → ℕ → Option ℕ
  named_early s h view = if past.has_notarized (seen s h (view - 1)) then handoff_leader s view else None

  -- some of the views that a view's window reaches back to has a notarization or finalization
  abbrev pub has_anchor : Setup S C → List (Point S D P G C) → ℕ → Bool
  has_anchor s h view =
      let low : ℕ = issuance_floor s.optimistic_views view in
      any_from (λ u. is_direct (seen s h u)) low (view - low)

  -- a view is in the issuance window: views are optimistic, it starts no term, and its window reaches the start or an anchor
  abbrev pub is_in_window : Setup S C → List (Point S D P G C) → ℕ → Bool
  is_in_window s h view =
      not (s.optimistic_views == 0) && not (view == term_start s.length view)
      && ((issuance_floor s.optimistic_views view == 0) || has_anchor s h view)

  -- one of the views of its own term that its window reaches back to has a notarization or finalization
  abbrev pub has_anchor_in_term : Setup S C → List (Point S D P G C) → ℕ → Bool
  has_anchor_in_term s h view =
      let low : ℕ = issuance_floor s.optimistic_views view in
      not (s.optimistic_views == 0) && any_from (λ u. nat_le (term_start s.length view) u && is_direct (seen s h u)) low (view - low)

  -- a view has the leader of the view before: a view of its term that its window reaches has a certificate, or it is in the window
  -- and the leader's proposal of the view before was forwarded or voted for
  abbrev pub inherits : Setup S C → List (Point S D P G C) → ℕ → Bool
  inherits s h view =
      has_anchor_in_term s h view
      || (is_in_window s h view && (was_forwarded s h (view - 1) || past.has_notarized (seen s h (view - 1))))

  -- who leads each view: whoever becomes known first stays, until the view is dropped
  abbrev pub leader : Setup S C → List (Point S D P G C) → ℕ → Option ℕ
  leader s [] = λ view. None
  leader s (pruned ∷ h) = λ view. if nat_lt view (min_active s h) then None else leader s h view
  leader s (x ∷ h) = extend (λ view. option_or (named s x view) (named_early s (x ∷ h) view)) (inherits s (x ∷ h)) (leader s h)
