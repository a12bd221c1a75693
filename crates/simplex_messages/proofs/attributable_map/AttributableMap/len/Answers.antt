use Rattle.std.proofs.Common.{sym, ◌∙◌}
use Rattle.simplex_messages.proofs.SlotLemmas.{item_count-map_of, participants-map_of, length-items_in}
use Rattle.simplex_messages.proofs.attributable_map.AttributableMap.len.Goals as goal

pub returns-clause-exact : goal.returns-clause-exact
returns-clause-exact g c = rw (← c.self.view_is) (c.self.invariant.counted ∙ sym (item_count-map_of c.self.inside.slots.items))

pub returns-clause-at_most : goal.returns-clause-at_most
returns-clause-at_most g c =
    let slots = c.self.inside.slots.items in
    rw (← c.self.view_is) (rw (participants-map_of slots, c.self.invariant.counted) (length-items_in slots))
