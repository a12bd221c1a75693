use Rattle.node_wire.specs.Stream.{left_of}
use Rattle.node_wire.proofs.Taking.{barred_left, fault_over}
use Rattle.node_wire.proofs.input.EventInput.next_event.Goals as goal

pub returns-in-Err-clause-fault : goal.returns-in-Err-clause-fault
returns-in-Err-clause-fault g c =
    let at = c.loop-event.invariant.0 in
    let kept = c.loop-event.invariant.3 in
    let given = left_of c.args.self.now (g.R.Source.remaining c.args.reader.now) in
    let left = g.R.Source.remaining c.loop-event.reader in
    fault_over c.in-Err.fault c.loop-event.self.place c.args.self.now.place _ _ _ _ at (λ no. absurd no)
    (λ barred. barred_left (g.D.Read.reading c.args.bound) given left c.loop-event.self.held kept barred) c.in-Err.ensures.fault
