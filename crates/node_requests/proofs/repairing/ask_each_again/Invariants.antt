use Rattle.std.proofs.Common.{◌≡◌, drop}
use Rattle.simplex_member.specs.Packet.{formats}
use Rattle.simplex_member.specs.Point.{History}
use Rattle.simplex_member.specs.Setup.{Setup}
use Rattle.node_requests.specs.Fetching.{ArePending, RepairerKeeps}
use Rattle.node_requests.proofs.Again.{AgainBut}
use Rattle.node_requests.proofs.repairing.ask_each_again.Given as goal

-- all that stands was sent again but what is left
abbrev pub invariant-loop-asked : goal.invariant-loop-asked
invariant-loop-asked g l = (s : Setup g.row.S.Denot g.row.D.Denot g.row.S-Certificate.Denot) (h : History g.row.S.Denot g.row.D.Denot g.row.S-PublicKey.Denot g.row.S-Signature.Denot g.row.S-Certificate.Denot)
    → RepairerKeeps g.S.Scheme (formats {S = g.row.S.Denot} {P = g.row.S-PublicKey.Denot} g.D.PartialEq.eq g.D.Write.spelling g.S.Signature.Write.spelling g.S.Certificate.Write.spelling g.D.Read.reading g.S.Signature.Read.reading g.S.Certificate.Read.reading (g.S.Scheme.size s.voter.scheme)) s l.repair l.fn.tables h → s.repair.again ≡ l.again → ArePending (formats {S = g.row.S.Denot} {P = g.row.S-PublicKey.Denot} g.D.PartialEq.eq g.D.Write.spelling g.S.Signature.Write.spelling g.S.Certificate.Write.spelling g.D.Read.reading g.S.Signature.Read.reading g.S.Certificate.Read.reading (g.S.Scheme.size s.voter.scheme)) s h l.pending
    → AgainBut g.S.Scheme (formats {S = g.row.S.Denot} {P = g.row.S-PublicKey.Denot} g.D.PartialEq.eq g.D.Write.spelling g.S.Signature.Write.spelling g.S.Certificate.Write.spelling g.D.Read.reading g.S.Signature.Read.reading g.S.Certificate.Read.reading (g.S.Scheme.size s.voter.scheme)) s (drop l.asked-index l.pending) l.tables h l.fn.out.items l.out.items l.acted
