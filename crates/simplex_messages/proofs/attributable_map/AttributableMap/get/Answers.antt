use Rattle.std.proofs.Common.{◌≡◌, get_or, None, arith, option_copied}
use Rattle.std.proofs.lemmas.Grind.{common_steps}
use Rattle.simplex_messages.proofs.SlotLemmas.{item_of-map_of, participants-map_of, IfSome-signed, IfSome-below}
use Rattle.simplex_messages.proofs.attributable_map.AttributableMap.get.Goals as goal

pub returns-in_err-get-clause-value : goal.returns-in_err-get-clause-value
returns-in_err-get-clause-value g c =
    rw (← c.self.view_is, item_of-map_of c.self.inside.slots.items c.args.signer) (grind (arith, common_steps))

pub returns-clause-value : goal.returns-clause-value
returns-clause-value g c =
    rw (← c.self.view_is, item_of-map_of c.self.inside.slots.items c.args.signer) (grind (arith, common_steps, c.as_ref.ensures.value))

pub returns-clause-signer : goal.returns-clause-signer
returns-clause-signer g c =
    let slots = c.self.inside.slots.items in
    let is : option_copied c.as_ref.result ≡ get_or slots c.args.signer None = grind (arith, common_steps, c.as_ref.ensures.value) in
    IfSome-signed g.T.Attributable.signer_of slots c.args.signer c.as_ref.result is c.self.invariant.signed

pub returns-clause-participant : goal.returns-clause-participant
returns-clause-participant g c =
    let slots = c.self.inside.slots.items in
    let is : option_copied c.as_ref.result ≡ get_or slots c.args.signer None = grind (arith, common_steps, c.as_ref.ensures.value) in
    rw (← c.self.view_is, participants-map_of slots) (IfSome-below slots c.args.signer c.as_ref.result is)
