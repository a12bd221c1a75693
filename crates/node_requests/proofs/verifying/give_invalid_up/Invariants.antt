use Rattle.std.proofs.Common.{◌-◌, ◌^◌}
use Rattle.simplex_member.specs.Packet.{formats}
use Rattle.simplex_member.specs.Point.{History}
use Rattle.simplex_member.specs.Setup.{Setup}
use Rattle.simplex_resolver.specs.declared.state.State.{State as Repair}
use Rattle.node_requests.specs.Asking.{AskerKeeps}
use Rattle.node_requests.proofs.Waits.{NoneBelow}
use Rattle.node_requests.proofs.verifying.give_invalid_up.Given as goal

-- no view below is to be given up, and none was
abbrev pub invariant-views : goal.invariant-views
invariant-views g l = (repair : Repair) (s : Setup g.row.S.Denot g.row.D.Denot g.row.S-Certificate.Denot) (h : History g.row.S.Denot g.row.D.Denot g.row.S-PublicKey.Denot g.row.S-Signature.Denot g.row.S-Certificate.Denot)
    → AskerKeeps g.S.Scheme g.L.Elector (formats {S = g.row.S.Denot} {P = g.row.S-PublicKey.Denot} g.D.PartialEq.eq g.D.Write.spelling g.S.Signature.Write.spelling g.S.Certificate.Write.spelling g.D.Read.reading g.S.Signature.Read.reading g.S.Certificate.Read.reading (g.S.Scheme.size s.voter.scheme)) s l.fn.voter repair l.tables h
    → NoneBelow g.S.Scheme g.L.Elector (formats {S = g.row.S.Denot} {P = g.row.S-PublicKey.Denot} g.D.PartialEq.eq g.D.Write.spelling g.S.Signature.Write.spelling g.S.Certificate.Write.spelling g.D.Read.reading g.S.Signature.Read.reading g.S.Certificate.Read.reading (g.S.Scheme.size s.voter.scheme)) s l.voter h l.next

abbrev pub decreases-views : goal.decreases-views
decreases-views g l = 2 ^ 64 - l.next
