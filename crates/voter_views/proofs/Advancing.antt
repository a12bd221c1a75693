-- How far a voter is, where only what is known of views changes.
use Rattle.std.specs.Prelude.{ℕ, List}
use Rattle.types_core.specs.declared.scheme.Scheme.{Ghosts}
use Rattle.voter_history.specs.Past.{Item}
use Rattle.voter_rounds.specs.declared.tracked.Tracked.{Tracked}
use Rattle.voter_rounds.specs.Tracked.{Tables, Holds}
use Rattle.voter_views.specs.declared.progress.Progress.{Progress}
use Rattle.voter_history.specs.History.{Setup, Point}
use Rattle.voter_history.specs.Leaders.{leader, was_forwarded}
use Rattle.voter_views.specs.Progress.{IsAt, frame_of}

-- the current view and the timeouts stay where what is known of views changes
pub IsAt-tracked : {S D P G C : Type 0} {g : Ghosts S D P G C} {s : Setup S C} {p : Progress S D P G C} {c : ℕ} {t t' : Tables S D P G C} {x : Tracked S D P G C}
    → IsAt g s p c t → Holds g (frame_of s) x t' → IsAt g s (record p { tracked = x }) c t'
IsAt-tracked k holds = record {
  view = k.view;
  leader_timeout = k.leader_timeout;
  certification_timeout = k.certification_timeout;
  stall_timeout = k.stall_timeout;
  tracked = holds;
}

-- what is known of all views where this happened to them, and leaders and notes are as they were
abbrev pub grown-tables : {S D P G C : Type 0} → Setup S C → List (Point S D P G C) → (ℕ → List (Item S D P G C)) → Tables S D P G C
grown-tables s h grown = record { led = leader s h; past = grown; noted = was_forwarded s h }
