use Rattle.simplex_member.specs.Layers.{voter_of}
use Rattle.simplex_member.specs.Packet.{formats}
use Rattle.node_due.proofs.Making.{forwarded_keeps}
use Rattle.node_due.proofs.constructing.take_proposal.Goals as goal

pub returns-in-Ok-clause-taken : goal.returns-in-Ok-clause-taken
returns-in-Ok-clause-taken g c = λ s h ahead may.
    let f = formats {S = g.row.S.Denot} {P = g.row.S-PublicKey.Denot} g.D.PartialEq.eq g.D.Write.spelling g.S.Signature.Write.spelling g.S.Certificate.Write.spelling g.D.Read.reading g.S.Signature.Read.reading g.S.Certificate.Read.reading (g.S.Scheme.size s.voter.scheme) in
    forwarded_keeps g.S.Scheme g.L.Elector g.K.Disk f s c.args.core.now c.set_proposal.new.self h c.args.view c.args.proposal.now ahead may (c.in-Ok.ensures.keeps s.voter (voter_of s h))
