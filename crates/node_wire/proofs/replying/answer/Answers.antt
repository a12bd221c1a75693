use Rattle.std.proofs.Common.{sym, subst}
use Rattle.std.specs.Io.KnownBytes.{Keeps}
use Rattle.std.proofs.KnownBytes.{Keeps-refl}
use Rattle.node_wire.specs.Streaming.{spelled}
use Rattle.node_wire.proofs.Streamed.{one_answered}
use Rattle.node_wire.proofs.replying.answer.Goals as goal

pub returns-in-Ok-clause-answers : goal.returns-in-Ok-clause-answers
returns-in-Ok-clause-answers g c =
    one_answered g.T.Stepper.steps (spelled g.S.PublicKey.Write.spelling g.D.Write.spelling g.S.Signature.Write.spelling g.S.Certificate.Write.spelling) c.write_out.result c.args.node.now c.step.new.node c.args.event c.in-Ok.reply
    (g.W.Sink.contents c.args.writer.now) (g.W.Sink.contents c.write_out.new.writer) c.in-Ok.ensures c.write_out.ensures.whole c.write_out.ensures.front (λ is. subst (λ w. Keeps (g.W.Sink.contents c.args.writer.now) (g.W.Sink.contents w)) (sym (c.write_out.ensures.memory is)) (Keeps-refl (g.W.Sink.contents c.args.writer.now))) c.write_out.ensures.faults
