use Rattle.std.proofs.Common.{◌≡◌, [], ap, ◌∙◌, true}
use Rattle.std.specs.Prelude.{Err, Ok, false, ⊤}
use Rattle.std.proofs.KnownBytes.{prepend_known-nil}
use Rattle.node_wire.specs.Stream.{left_of}
use Rattle.node_wire.specs.Stepper.{Answer, AnswerBefore}
use Rattle.node_wire.specs.Streaming.{spelled}
use Rattle.node_wire.specs.OverAmid.{stands_first}
use Rattle.node_wire.proofs.Streamed.{ends_first, never_stops}
use Rattle.node_wire.proofs.streaming.answer_stream.Goals as goal

-- it never pauses
pub returns-in-Ok-clause-answers : goal.returns-in-Ok-clause-answers
returns-in-Ok-clause-answers g c =
    never_stops g.D.Write.fits g.D.Write.spelling (spelled g.S.PublicKey.Write.spelling g.D.Write.spelling g.S.Signature.Write.spelling g.S.Certificate.Write.spelling) (g.D.Read.reading 65535)
    (Answer g.T.Stepper.steps c.args.node.now c.answer_some.new.node) (AnswerBefore g.T.Stepper.steps c.args.node.now c.answer_some.new.node) ⊥ {A = ⊤} tt _ (g.R.Source.remaining c.args.reader.now) _ _ (g.W.Sink.contents c.args.writer.now) (g.W.Sink.contents c.answer_some.new.writer)
    (λ is. absurd (let bad : true ≡ false = c.in-Ok.ensures.paused (ap Ok is) in cc))
    (c.in-Ok.ensures.answers (g.R.Source.remaining c.args.reader.now) (g.W.Sink.contents c.args.writer.now) [] []
    (stands_first g.D.Write.fits g.D.Write.spelling (spelled g.S.PublicKey.Write.spelling g.D.Write.spelling g.S.Signature.Write.spelling g.S.Certificate.Write.spelling)
    (g.R.Source.remaining c.args.reader.now) (left_of c.new-input.result (g.R.Source.remaining c.args.reader.now)) c.new-input.result (g.W.Sink.contents c.args.writer.now)
    (ap (λ i. left_of i (g.R.Source.remaining c.args.reader.now)) c.new-input.ensures ∙ prepend_known-nil (g.R.Source.remaining c.args.reader.now)) (ap (λ i. i.place) c.new-input.ensures) (ap (λ i. i.taken) c.new-input.ensures)))

-- as it ended
pub returns-clause-answers : goal.returns-clause-answers
returns-clause-answers g c =
    ends_first g.D.Write.fits g.D.Write.spelling (spelled g.S.PublicKey.Write.spelling g.D.Write.spelling g.S.Signature.Write.spelling g.S.Certificate.Write.spelling) (g.D.Read.reading 65535)
    (Answer g.T.Stepper.steps c.args.node.now c.answer_some.new.node) (AnswerBefore g.T.Stepper.steps c.args.node.now c.answer_some.new.node) _ {A = ⊤} (Err c.in-Err.fault) (g.R.Source.remaining c.args.reader.now) (g.W.Sink.contents c.args.writer.now) (g.W.Sink.contents c.answer_some.new.writer)
    (c.in-Err.ensures.answers (g.R.Source.remaining c.args.reader.now) (g.W.Sink.contents c.args.writer.now) [] []
    (stands_first g.D.Write.fits g.D.Write.spelling (spelled g.S.PublicKey.Write.spelling g.D.Write.spelling g.S.Signature.Write.spelling g.S.Certificate.Write.spelling)
    (g.R.Source.remaining c.args.reader.now) (left_of c.new-input.result (g.R.Source.remaining c.args.reader.now)) c.new-input.result (g.W.Sink.contents c.args.writer.now)
    (ap (λ i. left_of i (g.R.Source.remaining c.args.reader.now)) c.new-input.ensures ∙ prepend_known-nil (g.R.Source.remaining c.args.reader.now)) (ap (λ i. i.place) c.new-input.ensures) (ap (λ i. i.taken) c.new-input.ensures)))
