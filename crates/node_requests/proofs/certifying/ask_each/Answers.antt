use Rattle.std.proofs.Common.{◌+◌, List, drop, subst, arith}
use Rattle.types_core.specs.declared.proposal.Proposal.{Proposal}
use Rattle.simplex_member.specs.Packet.{formats}
use Rattle.node_requests.proofs.Verdicts.{AskedBut, drop_next, no_verdict_asked, one_verdict_asked, verdicts_asked}
use Rattle.node_requests.proofs.certifying.ask_each.Goals as goal

pub loop-proposal-init : goal.loop-proposal-init
loop-proposal-init g c = λ repair s h k due.
    no_verdict_asked g.S.Scheme g.L.Elector (formats {S = g.row.S.Denot} {P = g.row.S-PublicKey.Denot} g.D.PartialEq.eq g.D.Write.spelling g.S.Signature.Write.spelling g.S.Certificate.Write.spelling g.D.Read.reading g.S.Signature.Read.reading g.S.Certificate.Read.reading (g.S.Scheme.size s.voter.scheme)) s c.args.ready.now c.args.voter.now repair c.args.tables.now h c.args.out.now.items k due

pub loop-proposal-preserved : goal.loop-proposal-preserved
loop-proposal-preserved g c = λ repair s h k due.
    let f = formats {S = g.row.S.Denot} {P = g.row.S-PublicKey.Denot} g.D.PartialEq.eq g.D.Write.spelling g.S.Signature.Write.spelling g.S.Certificate.Write.spelling g.D.Read.reading g.S.Signature.Read.reading g.S.Certificate.Read.reading (g.S.Scheme.size s.voter.scheme) in
    let all = c.args.ready.now in
    let i = c.loop-proposal.proposal-index in
    let p = c.proposal-item.result in
    one_verdict_asked g.S.Scheme g.L.Elector f s i p (drop (i + 1) all) c.loop-proposal.voter c.ask_one.new.voter c.loop-proposal.tables c.ask_one.new.tables h c.args.out.now.items c.loop-proposal.out.items c.ask_one.new.out.items
    (subst (λ (left : List (Proposal g.row.D.Denot)). AskedBut g.S.Scheme g.L.Elector f s i left c.loop-proposal.voter c.loop-proposal.tables h c.args.out.now.items c.loop-proposal.out.items)
    (drop_next all i p c.loop-proposal-test.true c.proposal-item.is) (c.loop-proposal.invariant repair s h k due))
    c.in-Ok.ensures.asked c.in-Ok.ensures.keeps (c.in-Ok.ensures.acts f)

pub returns-clause-asked : goal.returns-clause-asked
returns-clause-asked g c = λ repair s h k due.
    let f = formats {S = g.row.S.Denot} {P = g.row.S-PublicKey.Denot} g.D.PartialEq.eq g.D.Write.spelling g.S.Signature.Write.spelling g.S.Certificate.Write.spelling g.D.Read.reading g.S.Signature.Read.reading g.S.Certificate.Read.reading (g.S.Scheme.size s.voter.scheme) in
    verdicts_asked g.S.Scheme g.L.Elector f s c.loop-proposal.voter c.loop-proposal.tables h c.args.out.now.items c.loop-proposal.out.items
    c.loop-proposal.proposal-index c.args.ready.now (drop c.loop-proposal.proposal-index c.args.ready.now) (omega (arith, c.loop-proposal-test.false)) (c.loop-proposal.invariant repair s h k due)
