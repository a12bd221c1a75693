use Rattle.std.proofs.Common.{◌≤◌, ◌+◌, length}
use Rattle.std.specs.Prelude.{vec_capacity, vec_len}
use Rattle.node_wire.proofs.Answered.{ListsOn}
use Rattle.node_wire.proofs.listing.answer_list.Given as goal

-- there is room for the replies that are left, and the events so far were answered
abbrev pub invariant-loop-event : goal.invariant-loop-event
invariant-loop-event g l = record {
  room : vec_len l.replies + length l.event-iterator.rest.items ≤ vec_capacity l.replies;
  so_far : ListsOn g.T.Stepper.steps l.fn.node l.node l.fn.events.items l.event-iterator.rest.items l.replies.items;
}
