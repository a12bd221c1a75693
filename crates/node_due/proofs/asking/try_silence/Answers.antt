use Rattle.simplex_member.specs.Packet.{formats}
use Rattle.node_due.proofs.Trying.{asks, if_ok_by, was_asked}
use Rattle.node_due.proofs.asking.try_silence.Goals as goal

pub returns-clause-tried : goal.returns-clause-tried
returns-clause-tried g c = λ s h k actions.
    let f = formats {S = g.row.S.Denot} {P = g.row.S-PublicKey.Denot} g.D.PartialEq.eq g.D.Write.spelling g.S.Signature.Write.spelling g.S.Certificate.Write.spelling g.D.Read.reading g.S.Signature.Read.reading g.S.Certificate.Read.reading (g.S.Scheme.size s.voter.scheme) in
    was_asked k c.give_silent_leader_up.new.voter c.args.core.now.tables c.silent_points_leave_votes.ensures.quiet c.a_ledger_at_rest_leaves_its_record.ensures
    (if_ok_by c.give_silent_leader_up.result c.give_silent_leader_up.ensures.acts (λ acted comes. comes c.args.core.now.repair s h (asks k) (c.silence-silence.ensures f s h k) actions))
