use Rattle.std.proofs.Common.{◌≡◌, ◌-◌, ◌^◌}
use Rattle.node_wire.specs.Stream.{left_of}
use Rattle.node_wire.specs.Stepper.{AnswersNone}
use Rattle.node_wire.specs.Streaming.{spelled}
use Rattle.node_wire.proofs.Streamed.{StreamsOn}
use Rattle.node_wire.proofs.streaming.answer_some.Given as goal

-- the events that were taken since were answered; nothing is written, and no step made, where no step answers; and no stream failed
abbrev pub invariant-loop-alloc : goal.invariant-loop-alloc
invariant-loop-alloc g l = record {
  so_far : StreamsOn g.T.Stepper.steps g.D.Write.fits g.D.Write.spelling (spelled {S = g.row.S.Denot} g.S.PublicKey.Write.spelling g.D.Write.spelling g.S.Signature.Write.spelling g.S.Certificate.Write.spelling)
      l.fn.node l.fn.input (left_of l.fn.input (g.R.Source.remaining l.fn.reader)) (left_of l.input (g.R.Source.remaining l.reader)) l.input (g.W.Sink.contents l.fn.writer) (g.W.Sink.contents l.writer) l.node;
  still : AnswersNone g.T.Stepper.steps l.fn.node → (l.node ≡ l.fn.node) × (l.writer ≡ l.fn.writer);
  read : g.R.Source.failed l.reader ≡ g.R.Source.failed l.fn.reader;
  written : g.W.Sink.failed l.writer ≡ g.W.Sink.failed l.fn.writer;
  flushed : g.W.Sink.is_flushed l.fn.writer → g.W.Sink.is_flushed l.writer;
}

-- how many events may still be taken
abbrev pub decreases-loop-alloc : goal.decreases-loop-alloc
decreases-loop-alloc g l = 2 ^ 32 - l.input.taken
