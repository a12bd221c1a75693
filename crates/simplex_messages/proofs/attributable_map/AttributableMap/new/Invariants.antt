use Rattle.std.proofs.Common.{◌≡◌, [], length}
use Rattle.simplex_messages.specs.Slots.{items_in}
use Rattle.simplex_messages.proofs.attributable_map.AttributableMap.new.Given as goal

-- there are so many slots, and no item
abbrev pub invariant-loop : goal.invariant-loop
invariant-loop g l = (items_in l.slots.items ≡ []) × (length l.slots.items ≡ l.counter)
