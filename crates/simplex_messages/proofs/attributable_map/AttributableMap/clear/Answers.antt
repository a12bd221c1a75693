use Rattle.std.proofs.Common.{◌≡◌, ◌+◌, ◌<◌, ◌++◌, ◌∷◌, [], None, length, take, set, ap, sym, ◌∙◌, arith}
use Rattle.std.proofs.lemmas.List.{take_all, take_more_set, with_items_is}
use Rattle.std.proofs.lemmas.List.Elements.{filter_map-append}
use Rattle.simplex_messages.specs.Slots.{items_in}
use Rattle.simplex_messages.proofs.SlotLemmas.{participants-map_of, items-vacant, IsSound-vacant}
use Rattle.simplex_messages.proofs.FirstItems.{HoldsFirstItems-empty}
use Rattle.simplex_messages.proofs.attributable_map.AttributableMap.clear.Goals as goal

pub loop-slot-preserved : goal.loop-slot-preserved
loop-slot-preserved g c =
    let slots = c.loop-slot.slot-items in
    let here = c.loop-slot.slot-index in
    let within : here < length slots = omega arith in
    let step : items_in (take (here + 1) (set slots here None)) ≡ [] =
    ap items_in (take_more_set slots here None within) ∙ filter_map-append (λ slot. slot) (take here slots) (None ∷ []) ∙ ap (λ items. items ++ []) c.loop-slot.invariant in
    step

pub invariant_of-self : goal.invariant_of-self
invariant_of-self g c =
    let slots = c.loop-slot.slot-items in
    let whole : length slots ≡ c.self.inside.slots.len = omega (arith, c.deref_mut-slot-items.ensures.len) in
    let vacant : items_in slots ≡ [] = ap items_in (sym (take_all c.loop-slot.slot-index slots (omega arith))) ∙ c.loop-slot.invariant in
    rw (with_items_is c.self.inside.slots slots whole) (IsSound-vacant g.T.Attributable.signer_of slots vacant)

pub returns-clause-participants : goal.returns-clause-participants
returns-clause-participants g c =
    let slots = c.loop-slot.slot-items in
    let whole : length slots ≡ c.self.inside.slots.len = omega (arith, c.deref_mut-slot-items.ensures.len) in
    let as_many : length slots ≡ length c.self.inside.slots.items = omega (arith, c.deref_mut-slot-items.ensures.value, ap length c.deref_mut-slot-items.ensures.value) in
    participants-map_of _ ∙ ap length (with_items_is c.self.inside.slots slots whole) ∙ as_many ∙ sym (participants-map_of c.self.inside.slots.items) ∙ ap (λ m. m.participants) c.self.view_is

pub returns-clause-empty : goal.returns-clause-empty
returns-clause-empty g c =
    let slots = c.loop-slot.slot-items in
    let whole : length slots ≡ c.self.inside.slots.len = omega (arith, c.deref_mut-slot-items.ensures.len) in
    let vacant : items_in slots ≡ [] = ap items_in (sym (take_all c.loop-slot.slot-index slots (omega arith))) ∙ c.loop-slot.invariant in
    items-vacant _ (ap items_in (with_items_is c.self.inside.slots slots whole) ∙ vacant)

pub returns-clause-first_items : goal.returns-clause-first_items
returns-clause-first_items g c = HoldsFirstItems-empty g.T.Attributable.signer_of _ (returns-clause-empty g c)
