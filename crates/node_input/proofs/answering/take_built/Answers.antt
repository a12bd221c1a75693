use Rattle.std.proofs.Common.{None, Some}
use Rattle.std.proofs.lemmas.Result.{on_ok_weaker}
use Rattle.simplex_member.specs.Packet.{formats}
use Rattle.node_input.proofs.Behind.{built_so}
use Rattle.node_input.proofs.answering.take_built.Goals as goal

pub returns-in-Some-clause-taken : goal.returns-in-Some-clause-taken
returns-in-Some-clause-taken g c = on_ok_weaker c.take_payload.result (λ taken. λ s h k stands.
    let f = formats g.D.PartialEq.eq g.D.Write.spelling g.S.Signature.Write.spelling g.S.Certificate.Write.spelling g.D.Read.reading g.S.Signature.Read.reading g.S.Certificate.Read.reading (g.S.Scheme.size s.voter.scheme) in
    built_so g.S.Scheme g.L.Elector g.K.Disk f s c.take_payload.new.core h c.args.number c.args.payload (Some c.in-Some.payload) _ _ c.in-Some.is
    (taken s h k stands)) c.take_payload.ensures.taken

pub returns-in-None-clause-taken : goal.returns-in-None-clause-taken
returns-in-None-clause-taken g c = on_ok_weaker c.take_no_payload.result (λ taken. λ s h k stands.
    let f = formats g.D.PartialEq.eq g.D.Write.spelling g.S.Signature.Write.spelling g.S.Certificate.Write.spelling g.D.Read.reading g.S.Signature.Read.reading g.S.Certificate.Read.reading (g.S.Scheme.size s.voter.scheme) in
    built_so g.S.Scheme g.L.Elector g.K.Disk f s c.take_no_payload.new.core h c.args.number c.args.payload None _ _ c.in-None.is
    (taken s h k stands c.args.out.now.items)) c.take_no_payload.ensures.taken
