-- Where the votes of all views stand that are told of what the record has.
use Rattle.std.specs.Prelude.{Bool}
use Rattle.types_core.specs.declared.scheme.Scheme.{Ghosts}
use Rattle.node_votes.specs.declared.acceptance.Acceptance.{Acceptance}
use Rattle.node_votes.specs.KeepsVotes.{Keeps}
use Rattle.simplex_member.specs.Point.{History}
use Rattle.simplex_member.specs.Setup.{Setup}

module _ {S D P G C : Type 0} (g : Ghosts S D P G C) (same : D → D → Bool) where
  -- the votes of all views stand at some history of some member, and this holds there
  abbrev pub AtSome : Acceptance S D P G C → (Setup S D C → History S D P G C → Type 0) → Type 0
  AtSome a Holds = (s : Setup S D C) × (h : History S D P G C) × Keeps g same s a h × Holds s h
