-- When a view is given up.
use Rattle.std.specs.Prelude.{◌≡◌, ◌≢◌, ◌⊎◌, ◌+◌, ◌-◌, ◌<◌, ◌≤◌, ◌&&◌, ◌||◌, nat_lt, nat_le, ℕ, zero, suc, Bool, true, false, max, List, [], Option, Some, None, is_some, IsSome, option_and_then, if◌then◌else◌}
use Rattle.types_core.specs.Positions.{HasRoom, term_start, term_index}
use Rattle.voter_history.specs.declared.timeout_reason.TimeoutReason.{TimeoutReason}
use Rattle.voter_history.specs.declared.timeout_reason.TimeoutReason.TheVariants as reason
use Rattle.voter_history.specs.Held.{IsUnequivocated}
use Rattle.voter_history.specs.Past as past
use Rattle.voter_history.specs.Past.{Item}
use Rattle.voter_history.specs.History.{Setup, Point, current, last_finalized, seen}
use Rattle.voter_history.specs.Leaders.{leader}

-- the first of so many numbers from this one on that passes
abbrev pub first_from : (ℕ → Bool) → ℕ → ℕ → Option ℕ
first_from test low zero = None
first_from test low (suc n) = if test low then Some low else first_from test (low + 1) n

-- the earlier of a view's own timeout and its term's: the term's where it comes no later, and the own one still lies ahead
abbrev pub earlier : ℕ → Option (ℕ × TimeoutReason) → Option ℕ → Option (ℕ × TimeoutReason)
earlier now own None = own
earlier now None (Some stall) = Some (stall, reason.StallTimeout)
earlier now (Some o) (Some stall) = if nat_le stall o.0 && nat_lt now o.0 then Some (stall, reason.StallTimeout) else Some o

module _ {S D P G C : Type 0} where
  -- budget remains: fewer terms were skipped since the last finalized view than may be
  abbrev pub has_budget : Setup S C → List (Point S D P G C) → Bool
  has_budget s h = nat_lt (term_index s.length (current s h) - term_index s.length (last_finalized h + 1)) s.skip_budget

  -- the oldest view of the current term that was entered and isn't finalized
  abbrev pub oldest_entered : Setup S C → List (Point S D P G C) → Option ℕ
  oldest_entered s h =
      let low : ℕ = max (last_finalized h + 1) (term_start s.length (current s h)) in
      first_from (λ u. is_some (past.entered_at (seen s h u))) low (current s h + 1 - low)

  -- its stall deadline
  abbrev pub term_deadline : Setup S C → List (Point S D P G C) → Option ℕ
  term_deadline s h = option_and_then (λ u. past.stall_deadline (seen s h u)) (oldest_entered s h)

  -- when and why a view is given up: never where it is finalized or finalize was voted; where nullify was, again at the retry; and
  -- else at its own first timeout or its term's
  abbrev pub timeout_of : ℕ → Bool → Option ℕ → List (Item S D P G C) → Option (ℕ × TimeoutReason)
  timeout_of now counts stall x =
      if is_some (past.finalization x) || past.has_finalized x || past.has_nullified x then past.next_timeout x counts
      else earlier now (past.next_timeout x counts) stall

  -- when and why the current view is given up
  abbrev pub timeout : Setup S C → List (Point S D P G C) → ℕ → Option (ℕ × TimeoutReason)
  timeout s h now = timeout_of now (has_budget s h) (term_deadline s h) (seen s h (current s h))

  -- a view may be given up: it is the current one, behind the start, with room, and no finalize of it was voted
  pub record MayGiveUp (s : Setup S C) (h : List (Point S D P G C)) (view : ℕ) : Type 0 where
    pub current : view ≡ current s h
    pub some : 0 < view
    pub room : HasRoom s.length view
    pub not_finalized : past.has_finalized (seen s h view) ≡ false

  -- a nullify of the current view is due: it has room, and its timeout is there
  pub record NullifyIsDue (s : Setup S C) (h : List (Point S D P G C)) (now : ℕ) : Type 0 where
    pub gives_up : MayGiveUp s h (current s h)
    pub moment : ℕ
    pub why : TimeoutReason
    pub next : timeout s h now ≡ Some (moment, why)
    pub reached : moment ≤ now

  -- a view is tracked: something happened to it, or its leader is known
  abbrev pub IsTracked : Setup S C → List (Point S D P G C) → ℕ → Type 0
  IsTracked s h view = (seen s h view ≢ []) ⊎ IsSome (leader s h view)

  -- a reason to give the view up counts: the view isn't behind and is tracked; and that its leader is silent counts only while no
  -- proposal that nothing contradicts is held
  pub record MayLatch (s : Setup S C) (h : List (Point S D P G C)) (view : ℕ) (why : TimeoutReason) : Type 0 where
    pub from : current s h ≤ view
    pub tracked : IsTracked s h view
    pub heard : why ≡ reason.Inactivity → ¬ IsUnequivocated (past.offers (seen s h view))

  -- it is the first that counts: neither nullify nor finalize of the view was voted, and no reason came before
  pub record IsFirstLatch (s : Setup S C) (h : List (Point S D P G C)) (view : ℕ) (why : TimeoutReason) : Type 0 where
    pub counts : MayLatch s h view why
    pub first : past.is_unlatched (seen s h view) ≡ true
