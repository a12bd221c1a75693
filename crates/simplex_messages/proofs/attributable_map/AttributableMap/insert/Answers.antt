use Rattle.std.proofs.Common.{◌≡◌, ◌⊎◌, ◌<◌, ◌≤◌, IsSome, is_some, length, ap, sym, ◌∙◌, inl, inr, arith}
use Rattle.simplex_messages.specs.AttributableMap.{item_of}
use Rattle.simplex_messages.proofs.FirstItems.{HoldsFirstItems-insert, HoldsFirstItems-refused, refuses, takes, takes_changes}
use Rattle.simplex_messages.proofs.SlotLemmas.{past-participants, below-participants, item_of-read, item_of-vacant, items-filled, participants-filled, IsSound-set, vacant_slot, room_for_one}
use Rattle.simplex_messages.proofs.attributable_map.AttributableMap.insert.Goals as goal
use Rattle.simplex_messages.proofs.attributable_map.AttributableMap.insert.Goals.{then-place-len-via-then-place-len, then-place-len-via-else-place-len+then-is_some}

pub returns-then-place-len-clause-accepted : goal.returns-then-place-len-clause-accepted
returns-then-place-len-clause-accepted g c =
    let signer = g.T.Attributable.signer_of c.args.item in
    let is : c.get-place.result ≡ signer = cc in
    let slots = c.self.inside.slots.items in
    let m = c.args.self.now in
    let reason : (m.participants ≤ signer) ⊎ IsSome (item_of m signer) = elim c.then-place-len.branch [
      | then-place-len-via-then-place-len w ↦ inl (past-participants slots m c.self.view_is signer (omega arith))
      | then-place-len-via-else-place-len+then-is_some w ↦
          inr (ap is_some (item_of-read slots m c.self.view_is signer w.index.result.now (omega arith) (rw is at w.index.ensures)) ∙ cc)
    ] in
    refuses g.T.Attributable.signer_of m c.args.item reason

pub returns-then-place-len-clause-first_items : goal.returns-then-place-len-clause-first_items
returns-then-place-len-clause-first_items g c inserted holds =
    let signer = g.T.Attributable.signer_of c.args.item in
    let is : c.get-place.result ≡ signer = cc in
    let slots = c.self.inside.slots.items in
    let m = c.args.self.now in
    let reason : (m.participants ≤ signer) ⊎ IsSome (item_of m signer) = elim c.then-place-len.branch [
      | then-place-len-via-then-place-len w ↦ inl (past-participants slots m c.self.view_is signer (omega arith))
      | then-place-len-via-else-place-len+then-is_some w ↦
          inr (ap is_some (item_of-read slots m c.self.view_is signer w.index.result.now (omega arith) (rw is at w.index.ensures)) ∙ cc)
    ] in
    HoldsFirstItems-refused g.T.Attributable.signer_of m c.args.item inserted reason holds

pub overflow_add-self : goal.overflow_add-self
overflow_add-self g c =
    let slots = c.self.inside.slots.items in
    let place = c.get-place.result in
    let within : place < length slots = omega arith in
    let vacant = vacant_slot slots place c.index.result.now within c.index.ensures (sym c.is_some.ensures ∙ c.if-is_some.false) in
    omega (arith, room_for_one slots place within vacant, c.self.invariant.counted, c.len.type_inv)

pub invariant_of-self : goal.invariant_of-self
invariant_of-self g c =
    let signer = g.T.Attributable.signer_of c.args.item in
    let is : c.get-place.result ≡ signer = cc in
    let slots = c.self.inside.slots.items in
    let within : signer < length slots = omega arith in
    let vacant = vacant_slot slots signer c.index.result.now within (rw is at c.index.ensures) (sym c.is_some.ensures ∙ c.if-is_some.false) in
    rw is (IsSound-set g.T.Attributable.signer_of slots c.self.inside.count c.args.item within vacant c.self.invariant)

pub returns-clause-accepted : goal.returns-clause-accepted
returns-clause-accepted g c =
    let signer = g.T.Attributable.signer_of c.args.item in
    let is : c.get-place.result ≡ signer = cc in
    let slots = c.self.inside.slots.items in
    let m = c.args.self.now in
    let within : signer < length slots = omega arith in
    let vacant = vacant_slot slots signer c.index.result.now within (rw is at c.index.ensures) (sym c.is_some.ensures ∙ c.if-is_some.false) in
    takes g.T.Attributable.signer_of m c.args.item (below-participants slots m c.self.view_is signer within) (item_of-vacant slots m c.self.view_is signer vacant)

pub returns-clause-inserted : goal.returns-clause-inserted
returns-clause-inserted g c =
    let signer = g.T.Attributable.signer_of c.args.item in
    let is : c.get-place.result ≡ signer = cc in
    let slots = c.self.inside.slots.items in
    let within : signer < length slots = omega arith in
    rw is (items-filled slots c.args.self.now c.self.view_is signer c.args.item within)

pub returns-clause-changed : goal.returns-clause-changed
returns-clause-changed g c =
    let signer = g.T.Attributable.signer_of c.args.item in
    let is : c.get-place.result ≡ signer = cc in
    let slots = c.self.inside.slots.items in
    let m = c.args.self.now in
    let within : signer < length slots = omega arith in
    let vacant = vacant_slot slots signer c.index.result.now within (rw is at c.index.ensures) (sym c.is_some.ensures ∙ c.if-is_some.false) in
    takes_changes g.T.Attributable.signer_of m _ c.args.item (item_of-vacant slots m c.self.view_is signer vacant) (returns-clause-inserted g c)

pub returns-clause-participants : goal.returns-clause-participants
returns-clause-participants g c = participants-filled c.self.inside.slots.items c.args.self.now c.self.view_is c.get-place.result c.args.item

pub returns-clause-first_items : goal.returns-clause-first_items
returns-clause-first_items g c inserted holds =
    let signer = g.T.Attributable.signer_of c.args.item in
    let is : c.get-place.result ≡ signer = cc in
    let slots = c.self.inside.slots.items in
    let m = c.args.self.now in
    let within : signer < length slots = omega arith in
    let vacant = vacant_slot slots signer c.index.result.now within (rw is at c.index.ensures) (sym c.is_some.ensures ∙ c.if-is_some.false) in
    HoldsFirstItems-insert g.T.Attributable.signer_of m _ c.args.item inserted (returns-clause-participants g c) (below-participants slots m c.self.view_is signer within) (item_of-vacant slots m c.self.view_is signer vacant) (returns-clause-inserted g c) holds
