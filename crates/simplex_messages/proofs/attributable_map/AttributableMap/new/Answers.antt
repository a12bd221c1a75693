use Rattle.std.proofs.Common.{◌≡◌, length, ◌∙◌, arith}
use Rattle.std.proofs.lemmas.Grind.{common_steps}
use Rattle.std.proofs.lemmas.List.Elements.{filter_map-append}
use Rattle.simplex_messages.proofs.SlotLemmas.{participants-map_of, items-vacant, IsSound-vacant}
use Rattle.simplex_messages.proofs.FirstItems.{HoldsFirstItems-empty}
use Rattle.simplex_messages.proofs.attributable_map.AttributableMap.new.Goals as goal

pub loop-preserved : goal.loop-preserved
loop-preserved g c = grind (arith, common_steps, filter_map-append)

pub invariant_of-result : goal.invariant_of-result
invariant_of-result g c = IsSound-vacant g.T.Attributable.signer_of c.loop.slots.items c.loop.invariant.0

pub returns-clause-participants : goal.returns-clause-participants
returns-clause-participants g c =
    let as_many : length c.loop.slots.items ≡ c.args.participants = omega arith in
    participants-map_of c.loop.slots.items ∙ as_many

pub returns-clause-empty : goal.returns-clause-empty
returns-clause-empty g c = items-vacant c.loop.slots.items c.loop.invariant.0

pub returns-clause-first_items : goal.returns-clause-first_items
returns-clause-first_items g c = HoldsFirstItems-empty g.T.Attributable.signer_of _ (items-vacant c.loop.slots.items c.loop.invariant.0)
