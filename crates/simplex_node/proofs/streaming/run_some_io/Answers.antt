use Rattle.std.proofs.Common.{refl}
use Rattle.simplex_member.specs.Packet.{formats}
use Rattle.node_wire.specs.Stream.{left_of}
use Rattle.node_wire.specs.Streaming.{spelled}
use Rattle.simplex_node.proofs.Stepped.{failed_answers_none}
use Rattle.simplex_node.proofs.Streamed.{some_answers, some_as_many, some_device, some_failed, some_leaves, some_no_device, some_still}
use Rattle.simplex_node.proofs.streaming.run_some_io.Goals as goal

pub returns-clause-answers : goal.returns-clause-answers
returns-clause-answers g c = λ s h keeps given text before said stands.
    some_answers g.S.Scheme g.L.Elector g.K.Disk (formats g.D.PartialEq.eq g.D.Write.spelling g.S.Signature.Write.spelling g.S.Certificate.Write.spelling g.D.Read.reading g.S.Signature.Read.reading g.S.Certificate.Read.reading)
    g.D.Write.fits g.D.Write.spelling (spelled g.S.PublicKey.Write.spelling g.D.Write.spelling g.S.Signature.Write.spelling g.S.Certificate.Write.spelling) (g.D.Read.reading 65535) c.args.node.now c.answer_some.new.node s h keeps before said _ c.answer_some.result given
    (left_of c.answer_some.new.input (g.R.Source.remaining c.answer_some.new.reader)) c.answer_some.new.input text (g.W.Sink.contents c.answer_some.new.writer) (c.answer_some.ensures.answers given text before said stands)

-- the view is final
pub returns-clause-paused : goal.returns-clause-paused
returns-clause-paused g c = λ is f s h keeps. (c.answer_some.ensures.paused is f s h keeps).0 refl

pub returns-clause-failed : goal.returns-clause-failed
returns-clause-failed g c = some_failed g.S.Scheme g.L.Elector g.K.Disk (formats g.D.PartialEq.eq g.D.Write.spelling g.S.Signature.Write.spelling g.S.Certificate.Write.spelling g.D.Read.reading g.S.Signature.Read.reading g.S.Certificate.Read.reading)
    g.D.Write.fits g.D.Write.spelling c.args.node.now c.answer_some.new.node c.answer_some.result (left_of c.args.input.now (g.R.Source.remaining c.args.reader.now)) c.answer_some.ensures.steps

pub returns-clause-refused_if_failed : goal.returns-clause-refused_if_failed
returns-clause-refused_if_failed g c = λ failed. (
  some_still g.S.Scheme g.L.Elector g.K.Disk (formats g.D.PartialEq.eq g.D.Write.spelling g.S.Signature.Write.spelling g.S.Certificate.Write.spelling g.D.Read.reading g.S.Signature.Read.reading g.S.Certificate.Read.reading)
      g.D.Write.fits g.D.Write.spelling c.args.node.now c.answer_some.new.node c.answer_some.result (left_of c.args.input.now (g.R.Source.remaining c.args.reader.now)) c.answer_some.ensures.steps failed,
  c.answer_some.ensures.untouched (failed_answers_none g.S.Scheme g.L.Elector g.K.Disk (formats g.D.PartialEq.eq g.D.Write.spelling g.S.Signature.Write.spelling g.S.Certificate.Write.spelling g.D.Read.reading g.S.Signature.Read.reading g.S.Certificate.Read.reading) c.args.node.now failed),
)

pub returns-clause-device : goal.returns-clause-device
returns-clause-device g c = some_device g.S.Scheme g.L.Elector g.K.Disk (formats g.D.PartialEq.eq g.D.Write.spelling g.S.Signature.Write.spelling g.S.Certificate.Write.spelling g.D.Read.reading g.S.Signature.Read.reading g.S.Certificate.Read.reading)
    g.D.Write.fits g.D.Write.spelling c.args.node.now c.answer_some.new.node c.answer_some.result (left_of c.args.input.now (g.R.Source.remaining c.args.reader.now)) c.answer_some.ensures.steps

pub returns-clause-no_device : goal.returns-clause-no_device
returns-clause-no_device g c = some_no_device g.S.Scheme g.L.Elector g.K.Disk (formats g.D.PartialEq.eq g.D.Write.spelling g.S.Signature.Write.spelling g.S.Certificate.Write.spelling g.D.Read.reading g.S.Signature.Read.reading g.S.Certificate.Read.reading)
    g.D.Write.fits g.D.Write.spelling c.args.node.now c.answer_some.new.node c.answer_some.result (left_of c.args.input.now (g.R.Source.remaining c.args.reader.now)) c.answer_some.ensures.steps

pub returns-clause-as_many : goal.returns-clause-as_many
returns-clause-as_many g c = some_as_many g.S.Scheme g.L.Elector g.K.Disk (formats g.D.PartialEq.eq g.D.Write.spelling g.S.Signature.Write.spelling g.S.Certificate.Write.spelling g.D.Read.reading g.S.Signature.Read.reading g.S.Certificate.Read.reading)
    g.D.Write.fits g.D.Write.spelling c.args.node.now c.answer_some.new.node c.answer_some.result (left_of c.args.input.now (g.R.Source.remaining c.args.reader.now)) c.answer_some.ensures.steps

pub returns-clause-any_moment : goal.returns-clause-any_moment
returns-clause-any_moment g c = λ s h keeps. some_leaves g.S.Scheme g.L.Elector g.K.Disk (formats g.D.PartialEq.eq g.D.Write.spelling g.S.Signature.Write.spelling g.S.Certificate.Write.spelling g.D.Read.reading g.S.Signature.Read.reading g.S.Certificate.Read.reading)
    g.D.Write.fits g.D.Write.spelling c.args.node.now c.answer_some.new.node c.answer_some.result (left_of c.args.input.now (g.R.Source.remaining c.args.reader.now)) c.answer_some.ensures.steps s h keeps
