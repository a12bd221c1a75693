-- When the current view is given up for its term's standstill.
use Rattle.std.specs.Prelude.{◌≡◌, ◌<◌, ◌||◌, false, is_some, List}
use Rattle.voter_history.specs.Past.{finalization, has_finalized, has_nullified}
use Rattle.voter_history.specs.History.{Setup, Point, current, seen}

-- the current view, behind the start, is not finalized, and this member voted neither finalize nor nullify for it
pub record MayStall {S D P G C : Type 0} (s : Setup S C) (h : List (Point S D P G C)) : Type 0 where
  pub started : 0 < current s h
  pub undecided : (is_some (finalization (seen s h (current s h))) || has_finalized (seen s h (current s h)) || has_nullified (seen s h (current s h))) ≡ false
