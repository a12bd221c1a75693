use Rattle.simplex_member.specs.Packet.{formats}
use Rattle.node_wire.specs.Streaming.{spelled}
use Rattle.simplex_node.proofs.Stepped.{failed_answers_none}
use Rattle.simplex_node.proofs.Streamed.{io_answers, io_as_many, io_device, io_failed, io_leaves, io_no_device, io_still}
use Rattle.simplex_node.proofs.streaming.run_io.Goals as goal

pub returns-clause-answers : goal.returns-clause-answers
returns-clause-answers g c = λ s h keeps. io_answers g.S.Scheme g.L.Elector g.K.Disk (formats g.D.PartialEq.eq g.D.Write.spelling g.S.Signature.Write.spelling g.S.Certificate.Write.spelling g.D.Read.reading g.S.Signature.Read.reading g.S.Certificate.Read.reading)
    g.D.Write.fits g.D.Write.spelling (spelled g.S.PublicKey.Write.spelling g.D.Write.spelling g.S.Signature.Write.spelling g.S.Certificate.Write.spelling) (g.D.Read.reading 65535) c.args.node.now c.answer_stream.new.node _ c.answer_stream.result
    (g.R.Source.remaining c.args.reader.now) (g.W.Sink.contents c.args.writer.now) (g.W.Sink.contents c.answer_stream.new.writer) c.answer_stream.ensures.answers s h keeps

pub returns-clause-failed : goal.returns-clause-failed
returns-clause-failed g c = io_failed g.S.Scheme g.L.Elector g.K.Disk (formats g.D.PartialEq.eq g.D.Write.spelling g.S.Signature.Write.spelling g.S.Certificate.Write.spelling g.D.Read.reading g.S.Signature.Read.reading g.S.Certificate.Read.reading)
    g.D.Write.fits g.D.Write.spelling (spelled g.S.PublicKey.Write.spelling g.D.Write.spelling g.S.Signature.Write.spelling g.S.Certificate.Write.spelling) (g.D.Read.reading 65535) c.args.node.now c.answer_stream.new.node _ c.answer_stream.result
    (g.R.Source.remaining c.args.reader.now) (g.W.Sink.contents c.args.writer.now) (g.W.Sink.contents c.answer_stream.new.writer) c.answer_stream.ensures.answers

pub returns-clause-refused_if_failed : goal.returns-clause-refused_if_failed
returns-clause-refused_if_failed g c = λ failed. (
  io_still g.S.Scheme g.L.Elector g.K.Disk (formats g.D.PartialEq.eq g.D.Write.spelling g.S.Signature.Write.spelling g.S.Certificate.Write.spelling g.D.Read.reading g.S.Signature.Read.reading g.S.Certificate.Read.reading)
      g.D.Write.fits g.D.Write.spelling (spelled g.S.PublicKey.Write.spelling g.D.Write.spelling g.S.Signature.Write.spelling g.S.Certificate.Write.spelling) (g.D.Read.reading 65535) c.args.node.now c.answer_stream.new.node _ c.answer_stream.result
      (g.R.Source.remaining c.args.reader.now) (g.W.Sink.contents c.args.writer.now) (g.W.Sink.contents c.answer_stream.new.writer) c.answer_stream.ensures.answers failed,
  c.answer_stream.ensures.untouched (failed_answers_none g.S.Scheme g.L.Elector g.K.Disk (formats g.D.PartialEq.eq g.D.Write.spelling g.S.Signature.Write.spelling g.S.Certificate.Write.spelling g.D.Read.reading g.S.Signature.Read.reading g.S.Certificate.Read.reading) c.args.node.now failed),
)

pub returns-clause-device : goal.returns-clause-device
returns-clause-device g c = io_device g.S.Scheme g.L.Elector g.K.Disk (formats g.D.PartialEq.eq g.D.Write.spelling g.S.Signature.Write.spelling g.S.Certificate.Write.spelling g.D.Read.reading g.S.Signature.Read.reading g.S.Certificate.Read.reading)
    g.D.Write.fits g.D.Write.spelling (spelled g.S.PublicKey.Write.spelling g.D.Write.spelling g.S.Signature.Write.spelling g.S.Certificate.Write.spelling) (g.D.Read.reading 65535) c.args.node.now c.answer_stream.new.node _ c.answer_stream.result
    (g.R.Source.remaining c.args.reader.now) (g.W.Sink.contents c.args.writer.now) (g.W.Sink.contents c.answer_stream.new.writer) c.answer_stream.ensures.answers

pub returns-clause-no_device : goal.returns-clause-no_device
returns-clause-no_device g c = io_no_device g.S.Scheme g.L.Elector g.K.Disk (formats g.D.PartialEq.eq g.D.Write.spelling g.S.Signature.Write.spelling g.S.Certificate.Write.spelling g.D.Read.reading g.S.Signature.Read.reading g.S.Certificate.Read.reading)
    g.D.Write.fits g.D.Write.spelling (spelled g.S.PublicKey.Write.spelling g.D.Write.spelling g.S.Signature.Write.spelling g.S.Certificate.Write.spelling) (g.D.Read.reading 65535) c.args.node.now c.answer_stream.new.node _ c.answer_stream.result
    (g.R.Source.remaining c.args.reader.now) (g.W.Sink.contents c.args.writer.now) (g.W.Sink.contents c.answer_stream.new.writer) c.answer_stream.ensures.answers

pub returns-clause-as_many : goal.returns-clause-as_many
returns-clause-as_many g c = io_as_many g.S.Scheme g.L.Elector g.K.Disk (formats g.D.PartialEq.eq g.D.Write.spelling g.S.Signature.Write.spelling g.S.Certificate.Write.spelling g.D.Read.reading g.S.Signature.Read.reading g.S.Certificate.Read.reading)
    g.D.Write.fits g.D.Write.spelling (spelled g.S.PublicKey.Write.spelling g.D.Write.spelling g.S.Signature.Write.spelling g.S.Certificate.Write.spelling) (g.D.Read.reading 65535) c.args.node.now c.answer_stream.new.node _ c.answer_stream.result
    (g.R.Source.remaining c.args.reader.now) (g.W.Sink.contents c.args.writer.now) (g.W.Sink.contents c.answer_stream.new.writer) c.answer_stream.ensures.answers

pub returns-clause-any_moment : goal.returns-clause-any_moment
returns-clause-any_moment g c = λ s h keeps. io_leaves g.S.Scheme g.L.Elector g.K.Disk (formats g.D.PartialEq.eq g.D.Write.spelling g.S.Signature.Write.spelling g.S.Certificate.Write.spelling g.D.Read.reading g.S.Signature.Read.reading g.S.Certificate.Read.reading)
    g.D.Write.fits g.D.Write.spelling (spelled g.S.PublicKey.Write.spelling g.D.Write.spelling g.S.Signature.Write.spelling g.S.Certificate.Write.spelling) (g.D.Read.reading 65535) c.args.node.now c.answer_stream.new.node _ c.answer_stream.result
    (g.R.Source.remaining c.args.reader.now) (g.W.Sink.contents c.args.writer.now) (g.W.Sink.contents c.answer_stream.new.writer) c.answer_stream.ensures.answers s h keeps
