-- How far a voter is: its current view, and what is known of all views.
use Rattle.std.specs.Prelude.{◌≡◌, ℕ, List}
use Rattle.types_core.specs.declared.scheme.Scheme.{Ghosts}
use Rattle.voter_views.specs.declared.progress.Progress.{Progress}
use Rattle.voter_history.specs.History.{Setup, Point, seen}
use Rattle.voter_history.specs.Leaders.{leader, was_forwarded}
use Rattle.voter_rounds.specs.Tracked.{Frame, Tables, Holds}

-- what stays the same of all views
abbrev pub frame_of : {S C : Type 0} → Setup S C → Frame S
frame_of s = record { common = record { scheme = s.scheme; epoch = s.epoch }; length = s.length; optimistic_views = s.optimistic_views }

module _ {S D P G C : Type 0} where
  -- what a history leaves of each view
  abbrev pub tables : Setup S C → List (Point S D P G C) → Tables S D P G C
  tables s h = record { led = leader s h; past = seen s h; noted = was_forwarded s h }

  -- the current view is this, and of all views this is known
  pub record IsAt (g : Ghosts S D P G C) (s : Setup S C) (p : Progress S D P G C) (current : ℕ) (t : Tables S D P G C) : Type 0 where
    pub view : p.view ≡ current
    pub leader_timeout : p.leader_timeout ≡ s.leader_timeout
    pub certification_timeout : p.certification_timeout ≡ s.certification_timeout
    pub stall_timeout : p.stall_timeout ≡ s.stall_timeout
    pub tracked : Holds g (frame_of s) p.tracked t
