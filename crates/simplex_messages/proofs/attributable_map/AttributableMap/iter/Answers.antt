use Rattle.std.proofs.Common.{sym, arith}
use Rattle.simplex_messages.proofs.SlotLemmas.{item_count-map_of, items_of-map_of, RisesBySigner-items_in, HoldsFirstItems-items_in, All-found, All-participants, length-items_in}
use Rattle.simplex_messages.proofs.attributable_map.AttributableMap.iter.Goals as goal

pub returns-clause-items : goal.returns-clause-items
returns-clause-items g c = rw (← c.self.view_is, c.as_slice.ensures.value) (sym (items_of-map_of c.self.inside.slots.items))

pub returns-clause-rises : goal.returns-clause-rises
returns-clause-rises g c = rw c.as_slice.ensures.value (RisesBySigner-items_in g.T.Attributable.signer_of c.self.inside.slots.items c.self.invariant.signed)

pub returns-clause-len : goal.returns-clause-len
returns-clause-len g c = rw (← c.self.view_is, c.as_slice.ensures.value) (sym (item_count-map_of c.self.inside.slots.items))

pub returns-clause-found : goal.returns-clause-found
returns-clause-found g c = rw c.as_slice.ensures.value (All-found c.self.inside.slots.items c.args.self.now c.self.view_is g.T.Attributable.signer_of c.self.invariant.signed)

pub returns-clause-participants : goal.returns-clause-participants
returns-clause-participants g c = rw c.as_slice.ensures.value (All-participants c.self.inside.slots.items c.args.self.now c.self.view_is g.T.Attributable.signer_of c.self.invariant.signed)

pub returns-clause-fits : goal.returns-clause-fits
returns-clause-fits g c = rw c.as_slice.ensures.value (omega (arith, length-items_in c.self.inside.slots.items, c.as_slice.ensures.len, c.as_slice.ensures.value))

pub returns-clause-first_items : goal.returns-clause-first_items
returns-clause-first_items g c = rw (← c.self.view_is, c.as_slice.ensures.value) (HoldsFirstItems-items_in g.T.Attributable.signer_of c.self.inside.slots.items c.self.invariant.signed)
