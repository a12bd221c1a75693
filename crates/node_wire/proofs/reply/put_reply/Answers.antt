use Rattle.std.proofs.Common.{◌∷◌, []}
use Rattle.node_wire.proofs.Written.{front_stays, reply_fitting, reply_written}
use Rattle.node_wire.proofs.reply.put_reply.Goals as goal

pub returns-clause-ok : goal.returns-clause-ok
returns-clause-ok g c =
    reply_written g.S.PublicKey.Write.spelling g.D.Write.spelling g.S.Signature.Write.spelling g.S.Certificate.Write.spelling c.put_listed.result c.args.reply.now
    c.args.out.now.items c.push.new.self.items c.put_listed.new.out.items (rw c.byte_of.ensures at c.in_ok-push.ensures.items) (rw c.deref.ensures.value at c.put_listed.ensures.ok)

pub returns-clause-readable : goal.returns-clause-readable
returns-clause-readable g c =
    reply_fitting g.D.PartialEq.eq g.S.PublicKey.Write.fits g.D.Write.fits g.S.Signature.Write.fits g.S.Certificate.Write.fits c.put_listed.result c.args.reply.now
    (rw c.deref.ensures.value at c.put_listed.ensures.readable)

pub returns-clause-err : goal.returns-clause-err
returns-clause-err g c =
    front_stays c.put_listed.result _ _ c.args.out.now.items c.push.new.self.items (c.byte_of.result ∷ []) c.put_listed.new.out.items c.args.out.now.ok.0 c.in_ok-push.ensures.items c.put_listed.ensures.err
