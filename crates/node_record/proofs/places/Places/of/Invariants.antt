use Rattle.std.proofs.Common.{take}
use Rattle.node_record.specs.Places.{KeepsPlaces}
use Rattle.node_record.proofs.places.Places.of.Given as goal

-- the places of those gone over are known
abbrev pub invariant-loop-place : goal.invariant-loop-place
invariant-loop-place g l = KeepsPlaces l.places (take l.place l.artifacts)
