use Rattle.std.proofs.Common.{drop}
use Rattle.simplex_resolver.specs.declared.state.State.{State as Repair}
use Rattle.simplex_member.specs.Packet.{formats}
use Rattle.simplex_member.specs.Point.{History}
use Rattle.simplex_member.specs.Setup.{Setup}
use Rattle.node_requests.specs.Asking.{AskerKeeps}
use Rattle.node_requests.specs.Certifying.{AreDueVerdicts}
use Rattle.node_requests.proofs.Verdicts.{AskedBut}
use Rattle.node_requests.proofs.certifying.ask_each.Given as goal

-- all verdicts were asked for but those that are left
abbrev pub invariant-loop-proposal : goal.invariant-loop-proposal
invariant-loop-proposal g l = (repair : Repair) (s : Setup g.row.S.Denot g.row.D.Denot g.row.S-Certificate.Denot) (h : History g.row.S.Denot g.row.D.Denot g.row.S-PublicKey.Denot g.row.S-Signature.Denot g.row.S-Certificate.Denot)
    → AskerKeeps g.S.Scheme g.L.Elector (formats {S = g.row.S.Denot} {P = g.row.S-PublicKey.Denot} g.D.PartialEq.eq g.D.Write.spelling g.S.Signature.Write.spelling g.S.Certificate.Write.spelling g.D.Read.reading g.S.Signature.Read.reading g.S.Certificate.Read.reading (g.S.Scheme.size s.voter.scheme)) s l.fn.voter repair l.fn.tables h → AreDueVerdicts s h l.ready
    → AskedBut g.S.Scheme g.L.Elector (formats {S = g.row.S.Denot} {P = g.row.S-PublicKey.Denot} g.D.PartialEq.eq g.D.Write.spelling g.S.Signature.Write.spelling g.S.Certificate.Write.spelling g.D.Read.reading g.S.Signature.Read.reading g.S.Certificate.Read.reading (g.S.Scheme.size s.voter.scheme)) s l.proposal-index (drop l.proposal-index l.ready) l.voter l.tables h l.fn.out.items l.out.items
