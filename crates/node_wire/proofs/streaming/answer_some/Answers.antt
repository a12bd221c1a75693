use Rattle.std.proofs.Common.{◌≡◌, ◌<◌, ◌^◌, ℕ, true, arith, refl, sym, ap, ◌∙◌, subst, inl}
use Rattle.std.specs.Prelude.{Err, false}
use Rattle.journal_single.specs.Disk.{counted}
use Rattle.node_wire.specs.Stream.{left_of}
use Rattle.node_wire.specs.Stepper.{Answer, AnswerBefore, AnswersNone, Behind, FailsBehind}
use Rattle.node_wire.specs.Streaming.{spelled}
use Rattle.node_wire.proofs.Streamed.{ends_all, ends_given_up, ends_unanswered, ends_unread, goes_none, goes_one, none_touched, none_went, steps_some, steps_unanswered, steps_unread, stops_amid}
use Rattle.node_wire.proofs.streaming.answer_some.Goals as goal

pub loop-alloc-init : goal.loop-alloc-init
loop-alloc-init g c = record {
  so_far = goes_none g.T.Stepper.steps g.D.Write.fits g.D.Write.spelling (spelled g.S.PublicKey.Write.spelling g.D.Write.spelling g.S.Signature.Write.spelling g.S.Certificate.Write.spelling)
      (left_of c.args.input.now (g.R.Source.remaining c.args.reader.now)) c.args.input.now (g.W.Sink.contents c.args.writer.now) c.args.node.now;
  still = λ none. (refl, refl);
  read = refl;
  written = refl;
  flushed = λ before. before;
}

pub loop-alloc-preserved : goal.loop-alloc-preserved
loop-alloc-preserved g c =
    let took = rw c.in-Some.is at c.in-Ok.ensures.event in
    record {
      so_far = goes_one g.T.Stepper.steps g.D.Write.fits g.D.Write.spelling (spelled g.S.PublicKey.Write.spelling g.D.Write.spelling g.S.Signature.Write.spelling g.S.Certificate.Write.spelling)
          c.args.node.now c.loop-alloc.node c.answer.new.node c.args.input.now (left_of c.args.input.now (g.R.Source.remaining c.args.reader.now)) (left_of c.loop-alloc.input (g.R.Source.remaining c.loop-alloc.reader)) (left_of c.next_event.new.self (g.R.Source.remaining c.next_event.new.reader)) c.loop-alloc.input c.next_event.new.self
          (g.W.Sink.contents c.args.writer.now) (g.W.Sink.contents c.loop-alloc.writer) (g.W.Sink.contents c.answer.new.writer) c.in-Some.event c.loop-alloc.invariant.so_far took c.in-Ok-answer.ensures.answers;
      still = λ none.
          let still = c.loop-alloc.invariant.still none in
          let (reply, step, written) = c.in-Ok-answer.ensures.answers in
          absurd (none_went g.T.Stepper.steps c.args.node.now c.loop-alloc.node c.answer.new.node c.in-Some.event reply none still.0 step);
      read = c.next_event.ensures.not_failed (λ bad. absurd cc) ∙ c.loop-alloc.invariant.read;
      written = c.answer.ensures.not_failed (λ bad. absurd cc) ∙ c.loop-alloc.invariant.written;
      flushed = λ before. c.answer.ensures.flushed (λ bad. absurd cc) (c.loop-alloc.invariant.flushed before);
    }

-- it pauses behind the event that was answered last
pub returns-then-is_due-clause-answers : goal.returns-then-is_due-clause-answers
returns-then-is_due-clause-answers g c = λ given text before said stands.
    let took = rw c.in-Some.is at c.in-Ok.ensures.event in
    stops_amid g.T.Stepper.steps g.D.Write.fits g.D.Write.spelling (spelled g.S.PublicKey.Write.spelling g.D.Write.spelling g.S.Signature.Write.spelling g.S.Certificate.Write.spelling) before said
    c.args.node.now c.answer.new.node c.args.input.now given (left_of c.args.input.now (g.R.Source.remaining c.args.reader.now)) (left_of c.next_event.new.self (g.R.Source.remaining c.next_event.new.reader)) c.next_event.new.self text (g.W.Sink.contents c.args.writer.now) (g.W.Sink.contents c.answer.new.writer) stands
    (goes_one g.T.Stepper.steps g.D.Write.fits g.D.Write.spelling (spelled g.S.PublicKey.Write.spelling g.D.Write.spelling g.S.Signature.Write.spelling g.S.Certificate.Write.spelling)
    c.args.node.now c.loop-alloc.node c.answer.new.node c.args.input.now (left_of c.args.input.now (g.R.Source.remaining c.args.reader.now)) (left_of c.loop-alloc.input (g.R.Source.remaining c.loop-alloc.reader)) (left_of c.next_event.new.self (g.R.Source.remaining c.next_event.new.reader)) c.loop-alloc.input c.next_event.new.self
    (g.W.Sink.contents c.args.writer.now) (g.W.Sink.contents c.loop-alloc.writer) (g.W.Sink.contents c.answer.new.writer) c.in-Some.event c.loop-alloc.invariant.so_far took c.in-Ok-answer.ensures.answers)

pub returns-then-is_due-clause-steps : goal.returns-then-is_due-clause-steps
returns-then-is_due-clause-steps g c =
    let took = rw c.in-Some.is at c.in-Ok.ensures.event in
    steps_some g.T.Stepper.steps g.D.Write.fits g.D.Write.spelling (spelled g.S.PublicKey.Write.spelling g.D.Write.spelling g.S.Signature.Write.spelling g.S.Certificate.Write.spelling)
    c.args.node.now c.answer.new.node c.args.input.now (left_of c.args.input.now (g.R.Source.remaining c.args.reader.now)) (left_of c.next_event.new.self (g.R.Source.remaining c.next_event.new.reader)) c.next_event.new.self (g.W.Sink.contents c.args.writer.now) (g.W.Sink.contents c.answer.new.writer)
    (goes_one g.T.Stepper.steps g.D.Write.fits g.D.Write.spelling (spelled g.S.PublicKey.Write.spelling g.D.Write.spelling g.S.Signature.Write.spelling g.S.Certificate.Write.spelling)
    c.args.node.now c.loop-alloc.node c.answer.new.node c.args.input.now (left_of c.args.input.now (g.R.Source.remaining c.args.reader.now)) (left_of c.loop-alloc.input (g.R.Source.remaining c.loop-alloc.reader)) (left_of c.next_event.new.self (g.R.Source.remaining c.next_event.new.reader)) c.loop-alloc.input c.next_event.new.self
    (g.W.Sink.contents c.args.writer.now) (g.W.Sink.contents c.loop-alloc.writer) (g.W.Sink.contents c.answer.new.writer) c.in-Some.event c.loop-alloc.invariant.so_far took c.in-Ok-answer.ensures.answers)

pub returns-then-is_due-clause-paused : goal.returns-then-is_due-clause-paused
returns-then-is_due-clause-paused g c = λ same.
    let yes : c.is_due.result ≡ true = cc in
    subst (g.P.Pause.tells c.args.pause.now c.answer.new.node) yes c.is_due.ensures

pub returns-then-is_due-clause-goes_on : goal.returns-then-is_due-clause-goes_on
returns-then-is_due-clause-goes_on g c = λ same.
    let took = rw c.in-Some.is at c.in-Ok.ensures.event in
    let few : c.loop-alloc.input.taken < 2 ^ 32 = c.is_spent.ensures.unspent (cc) in
    (omega (arith, c.loop-alloc.invariant.so_far.count, took.taken), omega (arith, few, took.taken))

-- no step answers where none does
pub returns-then-is_due-clause-untouched : goal.returns-then-is_due-clause-untouched
returns-then-is_due-clause-untouched g c = λ none.
    let still = c.loop-alloc.invariant.still none in
    let (reply, step, written) = c.in-Ok-answer.ensures.answers in
    absurd (none_went g.T.Stepper.steps c.args.node.now c.loop-alloc.node c.answer.new.node c.in-Some.event reply none still.0 step)

pub returns-then-is_due-clause-read : goal.returns-then-is_due-clause-read
returns-then-is_due-clause-read g c = λ other. c.next_event.ensures.not_failed (λ bad. absurd cc) ∙ c.loop-alloc.invariant.read

pub returns-then-is_due-clause-write : goal.returns-then-is_due-clause-write
returns-then-is_due-clause-write g c = λ other. c.answer.ensures.not_failed (λ bad. absurd cc) ∙ c.loop-alloc.invariant.written

pub returns-then-is_due-clause-flushed : goal.returns-then-is_due-clause-flushed
returns-then-is_due-clause-flushed g c = λ other before. c.answer.ensures.flushed (λ bad. absurd cc) (c.loop-alloc.invariant.flushed before)

-- no event was at hand
pub returns-in-Err-clause-answers : goal.returns-in-Err-clause-answers
returns-in-Err-clause-answers g c = λ given text before said stands.
    ends_unread g.T.Stepper.steps g.D.Write.fits g.D.Write.spelling (spelled g.S.PublicKey.Write.spelling g.D.Write.spelling g.S.Signature.Write.spelling g.S.Certificate.Write.spelling)
    (Behind before said (Answer g.T.Stepper.steps c.args.node.now c.loop-alloc.node)) given (left_of c.loop-alloc.input (g.R.Source.remaining c.loop-alloc.reader)) c.loop-alloc.input text (g.W.Sink.contents c.loop-alloc.writer)
    (stops_amid g.T.Stepper.steps g.D.Write.fits g.D.Write.spelling (spelled g.S.PublicKey.Write.spelling g.D.Write.spelling g.S.Signature.Write.spelling g.S.Certificate.Write.spelling) before said
    c.args.node.now c.loop-alloc.node c.args.input.now given (left_of c.args.input.now (g.R.Source.remaining c.args.reader.now)) (left_of c.loop-alloc.input (g.R.Source.remaining c.loop-alloc.reader)) c.loop-alloc.input text (g.W.Sink.contents c.args.writer.now) (g.W.Sink.contents c.loop-alloc.writer) stands c.loop-alloc.invariant.so_far)
    (g.D.Read.reading 65535) (c.is_spent.ensures.unspent (cc)) ℕ (FailsBehind before said (AnswerBefore g.T.Stepper.steps c.args.node.now c.loop-alloc.node)) c.in-Err.fault _ _
    (λ is. is ∙ ap (counted false) c.loop-alloc.invariant.read) c.in-Err.ensures.fault

pub returns-in-Err-clause-steps : goal.returns-in-Err-clause-steps
returns-in-Err-clause-steps g c = steps_unread g.T.Stepper.steps g.D.Write.fits g.D.Write.spelling (spelled g.S.PublicKey.Write.spelling g.D.Write.spelling g.S.Signature.Write.spelling g.S.Certificate.Write.spelling) ℕ
    c.args.node.now c.loop-alloc.node c.args.input.now (left_of c.args.input.now (g.R.Source.remaining c.args.reader.now)) (left_of c.loop-alloc.input (g.R.Source.remaining c.loop-alloc.reader)) c.loop-alloc.input (g.W.Sink.contents c.args.writer.now) (g.W.Sink.contents c.loop-alloc.writer) c.in-Err.fault _ _
    c.loop-alloc.invariant.so_far c.in-Err.ensures.fault

-- the event that was taken last wasn't answered whole
pub returns-in-Err-answer-clause-answers : goal.returns-in-Err-answer-clause-answers
returns-in-Err-answer-clause-answers g c = λ given text before said stands.
    let took = rw c.in-Some.is at c.in-Ok.ensures.event in
    ends_unanswered g.T.Stepper.steps g.D.Write.fits g.D.Write.spelling (spelled g.S.PublicKey.Write.spelling g.D.Write.spelling g.S.Signature.Write.spelling g.S.Certificate.Write.spelling) before said
    c.args.node.now c.loop-alloc.node c.answer.new.node given (left_of c.loop-alloc.input (g.R.Source.remaining c.loop-alloc.reader)) (left_of c.next_event.new.self (g.R.Source.remaining c.next_event.new.reader)) c.loop-alloc.input c.next_event.new.self
    text (g.W.Sink.contents c.loop-alloc.writer) (g.W.Sink.contents c.answer.new.writer) c.in-Some.event
    (stops_amid g.T.Stepper.steps g.D.Write.fits g.D.Write.spelling (spelled g.S.PublicKey.Write.spelling g.D.Write.spelling g.S.Signature.Write.spelling g.S.Certificate.Write.spelling) before said
    c.args.node.now c.loop-alloc.node c.args.input.now given (left_of c.args.input.now (g.R.Source.remaining c.args.reader.now)) (left_of c.loop-alloc.input (g.R.Source.remaining c.loop-alloc.reader)) c.loop-alloc.input text (g.W.Sink.contents c.args.writer.now) (g.W.Sink.contents c.loop-alloc.writer) stands c.loop-alloc.invariant.so_far)
    took ℕ ℕ (g.D.Read.reading 65535) _ c.in-Err-answer.fault c.in-Err-answer.ensures.answers

pub returns-in-Err-answer-clause-steps : goal.returns-in-Err-answer-clause-steps
returns-in-Err-answer-clause-steps g c =
    let took = rw c.in-Some.is at c.in-Ok.ensures.event in
    steps_unanswered g.T.Stepper.steps g.D.Write.fits g.D.Write.spelling (spelled g.S.PublicKey.Write.spelling g.D.Write.spelling g.S.Signature.Write.spelling g.S.Certificate.Write.spelling) ℕ ℕ
    c.args.node.now c.loop-alloc.node c.answer.new.node c.args.input.now (left_of c.args.input.now (g.R.Source.remaining c.args.reader.now)) (left_of c.loop-alloc.input (g.R.Source.remaining c.loop-alloc.reader)) (left_of c.next_event.new.self (g.R.Source.remaining c.next_event.new.reader)) c.loop-alloc.input c.next_event.new.self
    (g.W.Sink.contents c.args.writer.now) (g.W.Sink.contents c.loop-alloc.writer) (g.W.Sink.contents c.answer.new.writer) c.in-Some.event c.in-Err-answer.fault c.loop-alloc.invariant.so_far took c.in-Err-answer.ensures.answers

pub returns-in-Err-answer-clause-untouched : goal.returns-in-Err-answer-clause-untouched
returns-in-Err-answer-clause-untouched g c = λ none.
    let still = c.loop-alloc.invariant.still none in
    none_touched g.T.Stepper.steps ℕ _ (spelled g.S.PublicKey.Write.spelling g.D.Write.spelling g.S.Signature.Write.spelling g.S.Certificate.Write.spelling) c.loop-alloc.node c.answer.new.node c.in-Some.event c.in-Err-answer.fault
    (g.W.Sink.contents c.loop-alloc.writer) (g.W.Sink.contents c.answer.new.writer) c.args.writer.now c.answer.new.writer (subst (AnswersNone g.T.Stepper.steps) (sym still.0) none) c.in-Err-answer.ensures.answers (λ n is. c.in-Err-answer.ensures.untouched n (ap Err is) ∙ still.1)

-- the input is at its end
pub returns-in_default-clause-answers : goal.returns-in_default-clause-answers
returns-in_default-clause-answers g c = λ given text before said stands.
    ends_all g.T.Stepper.steps g.D.Write.fits g.D.Write.spelling (spelled g.S.PublicKey.Write.spelling g.D.Write.spelling g.S.Signature.Write.spelling g.S.Certificate.Write.spelling)
    (Behind before said (Answer g.T.Stepper.steps c.args.node.now c.loop-alloc.node)) given (left_of c.loop-alloc.input (g.R.Source.remaining c.loop-alloc.reader)) c.loop-alloc.input text (g.W.Sink.contents c.loop-alloc.writer)
    (stops_amid g.T.Stepper.steps g.D.Write.fits g.D.Write.spelling (spelled g.S.PublicKey.Write.spelling g.D.Write.spelling g.S.Signature.Write.spelling g.S.Certificate.Write.spelling) before said
    c.args.node.now c.loop-alloc.node c.args.input.now given (left_of c.args.input.now (g.R.Source.remaining c.args.reader.now)) (left_of c.loop-alloc.input (g.R.Source.remaining c.loop-alloc.reader)) c.loop-alloc.input text (g.W.Sink.contents c.args.writer.now) (g.W.Sink.contents c.loop-alloc.writer) stands c.loop-alloc.invariant.so_far)
    (g.D.Read.reading 65535) (c.is_spent.ensures.unspent (cc)) (rw c.in_default.is at c.in-Ok.ensures.end)

pub returns-in_default-clause-steps : goal.returns-in_default-clause-steps
returns-in_default-clause-steps g c = steps_some g.T.Stepper.steps g.D.Write.fits g.D.Write.spelling (spelled g.S.PublicKey.Write.spelling g.D.Write.spelling g.S.Signature.Write.spelling g.S.Certificate.Write.spelling)
    c.args.node.now c.loop-alloc.node c.args.input.now (left_of c.args.input.now (g.R.Source.remaining c.args.reader.now)) (left_of c.loop-alloc.input (g.R.Source.remaining c.loop-alloc.reader)) c.loop-alloc.input (g.W.Sink.contents c.args.writer.now) (g.W.Sink.contents c.loop-alloc.writer) c.loop-alloc.invariant.so_far

-- as many events were taken as may be
pub returns-clause-answers : goal.returns-clause-answers
returns-clause-answers g c = λ given text before said stands.
    ends_given_up g.T.Stepper.steps g.D.Write.fits g.D.Write.spelling (spelled g.S.PublicKey.Write.spelling g.D.Write.spelling g.S.Signature.Write.spelling g.S.Certificate.Write.spelling)
    (Behind before said (Answer g.T.Stepper.steps c.args.node.now c.loop-alloc.node)) given (left_of c.loop-alloc.input (g.R.Source.remaining c.loop-alloc.reader)) c.loop-alloc.input text (g.W.Sink.contents c.loop-alloc.writer)
    (stops_amid g.T.Stepper.steps g.D.Write.fits g.D.Write.spelling (spelled g.S.PublicKey.Write.spelling g.D.Write.spelling g.S.Signature.Write.spelling g.S.Certificate.Write.spelling) before said
    c.args.node.now c.loop-alloc.node c.args.input.now given (left_of c.args.input.now (g.R.Source.remaining c.args.reader.now)) (left_of c.loop-alloc.input (g.R.Source.remaining c.loop-alloc.reader)) c.loop-alloc.input text (g.W.Sink.contents c.args.writer.now) (g.W.Sink.contents c.loop-alloc.writer) stands c.loop-alloc.invariant.so_far)
    ⊥ _ (λ no. absurd no) (inl (c.is_spent.ensures.spent (cc)))

pub returns-clause-steps : goal.returns-clause-steps
returns-clause-steps g c = steps_some g.T.Stepper.steps g.D.Write.fits g.D.Write.spelling (spelled g.S.PublicKey.Write.spelling g.D.Write.spelling g.S.Signature.Write.spelling g.S.Certificate.Write.spelling)
    c.args.node.now c.loop-alloc.node c.args.input.now (left_of c.args.input.now (g.R.Source.remaining c.args.reader.now)) (left_of c.loop-alloc.input (g.R.Source.remaining c.loop-alloc.reader)) c.loop-alloc.input (g.W.Sink.contents c.args.writer.now) (g.W.Sink.contents c.loop-alloc.writer) c.loop-alloc.invariant.so_far
