use Rattle.std.proofs.Common.{sym, ap, ◌∙◌, arith, length}
use Rattle.std.proofs.lemmas.List.{nil_from_length}
use Rattle.node_wire.proofs.Answered.{lists_end, lists_failed, lists_one}
use Rattle.node_wire.proofs.listing.answer_list.Goals as goal

pub loop-event-preserved : goal.loop-event-preserved
loop-event-preserved g c =
    let left = c.in-Some.ensures.steps.0 in
    record {
      room = omega (arith, c.loop-event.invariant.room, ap length left, c.push_reserved.ensures.len, c.push_reserved.ensures.capacity);
      so_far = lists_one g.T.Stepper.steps c.args.node.now c.loop-event.node c.step.new.node c.args.events.items _ _ c.in-Some.event _ _ c.in-Ok.reply left c.push_reserved.ensures.items c.loop-event.invariant.so_far c.in-Ok.ensures;
    }

pub returns-in-Err-clause-answers : goal.returns-in-Err-clause-answers
returns-in-Err-clause-answers g c = lists_failed g.T.Stepper.steps c.args.node.now c.loop-event.node c.step.new.node c.args.events.items _ _ c.in-Some.event c.loop-event.replies.items c.in-Err.fault c.in-Some.ensures.steps.0 c.loop-event.invariant.so_far c.in-Err.ensures

pub returns-clause-answers : goal.returns-clause-answers
returns-clause-answers g c =
    let none = nil_from_length _ (sym c.loop-event.event-iterator.rest.ok.0 ∙ c.in-None.ensures.steps.0) in
    lists_end g.T.Stepper.steps c.args.node.now c.loop-event.node c.args.events.items _ c.loop-event.replies.items none c.loop-event.invariant.so_far
