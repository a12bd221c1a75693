-- When a node wants to be told the time.
use Rattle.std.specs.Prelude.{◌&&◌, [], ◌∷◌, ℕ, List, Option, Some, None, is_none, if◌then◌else◌}
use Rattle.voter_history.specs.Past as past
use Rattle.voter_history.specs.History.{seen}
use Rattle.simplex_member.specs.Deeds.{Deed, Wakes}
use Rattle.simplex_member.specs.Layers.{current_of, voter_of}
use Rattle.simplex_member.specs.Point.{Polls, History}
use Rattle.simplex_member.specs.Setup.{Setup}

-- what is said of the time: the moment, where there is one
abbrev pub wakes : {S D P G C : Type 0} → Option ℕ → List (Deed S D P G C)
wakes None = []
wakes (Some now) = Wakes now ∷ []

-- the history behind a poll of the next timeout: it is a point where the current view was given up, and when that is due again isn't known
abbrev pub after_poll : {S D P G C : Type 0} → Setup S D C → History S D P G C → History S D P G C
after_poll s h =
    if past.has_nullified (seen s.voter (voter_of s h) (current_of s h)) && is_none (past.retry (seen s.voter (voter_of s h) (current_of s h)))
    then Polls ∷ h
    else h
