use Rattle.std.proofs.Common.{ℕ, ◌≤◌, length, ap, arith, length-append, subst}
use Rattle.node_wire.specs.Event.{event_spelling, event_value}
use Rattle.node_wire.proofs.EventSize.{never_longer}
use Rattle.node_wire.proofs.input.front_event.Goals as goal

pub returns-clause-short : goal.returns-clause-short
returns-clause-short g c =
    let (whole, fits) = c.in_ok-event.ensures.spelled in
    let payload = subst (λ (n : ℕ). n ≤ 1024) c.payload_size-payload.ensures.size c.payload_size-payload.ensures.short in
    let short = never_longer g.D.Write.fits g.D.Write.spelling (event_value c.in_ok-event.event) fits payload in
    omega (arith, short, ap length whole, length-append (event_spelling g.D.Write.spelling (event_value c.in_ok-event.event)) c.read_event.new.input.now)
