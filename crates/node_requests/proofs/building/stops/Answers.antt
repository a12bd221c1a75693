use Rattle.std.proofs.Common.{◌∙◌, sym}
use Rattle.simplex_member.specs.Layers.{known_of, voter_of}
use Rattle.simplex_member.specs.Setup.{member_of}
use Rattle.node_requests.proofs.Builds.{told_stopped}
use Rattle.node_requests.proofs.building.stops.Goals as goal

pub returns-then-building : goal.returns-then-building
returns-then-building g c = λ f s h k.
    let context = c.args.building.now.context in
    let told = told_stopped (member_of s) (known_of s h) context.round.view context.parent.0 context.parent.1 c.pending_handoff_abandonment.result
    (c.pending_handoff_abandonment.ensures s.voter (voter_of s h) k) in
    (λ yes. (c.if-building.true, told.0 (sym c.is_some.ensures ∙ yes)), λ so. c.is_some.ensures ∙ told.1 so.1)
