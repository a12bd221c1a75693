use Rattle.std.proofs.Common.{◌≡◌, [], take}
use Rattle.simplex_messages.specs.Slots.{items_in}
use Rattle.simplex_messages.proofs.attributable_map.AttributableMap.clear.Given as goal

-- the slots that were passed have no item
abbrev pub invariant-loop-slot : goal.invariant-loop-slot
invariant-loop-slot g l = items_in (take l.slot-index l.slot-items) ≡ []
