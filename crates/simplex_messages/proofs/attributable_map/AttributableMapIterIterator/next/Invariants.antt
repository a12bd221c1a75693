use Rattle.std.proofs.Common.{◌≡◌, length}
use Rattle.simplex_messages.specs.Slots.{items_in}
use Rattle.simplex_messages.proofs.attributable_map.AttributableMapIterIterator.next.Given as goal

-- only slots without items were passed over
abbrev pub invariant-loop-slot : goal.invariant-loop-slot
invariant-loop-slot g l = items_in l.self-inside.slots.now ≡ l.fn.self

abbrev pub decreases-loop-slot : goal.decreases-loop-slot
decreases-loop-slot g l = length l.self-inside.slots.now
