use Rattle.simplex_member.specs.Layers.{finalized_of}
use Rattle.simplex_member.specs.Packet.{formats}
use Rattle.node_due.proofs.Trying.{follows_ask, if_ok_by, was_asked}
use Rattle.simplex_record.specs.declared.owner.Owner.{Owner}
use Rattle.std.proofs.Common.{ap, sym}
use Rattle.node_due.proofs.following.try_to_follow.Goals as goal

pub returns-clause-tried : goal.returns-clause-tried
returns-clause-tried g c = λ s h k actions.
    let f = formats {S = g.row.S.Denot} {P = g.row.S-PublicKey.Denot} g.D.PartialEq.eq g.D.Write.spelling g.S.Signature.Write.spelling g.S.Certificate.Write.spelling g.D.Read.reading g.S.Signature.Read.reading g.S.Certificate.Read.reading (g.S.Scheme.size s.voter.scheme) in
    let me = sym (ap (λ (o : Owner). o.signer) k.set_up.owner_is) in
    let now = sym (c.moment-now.ensures (finalized_of s h) h k.tables) in
    was_asked k c.follow_leader.new.voter c.args.core.now.tables c.silent_points_leave_votes.ensures.quiet c.a_ledger_at_rest_leaves_its_record.ensures
    (if_ok_by c.follow_leader.result c.follow_leader.ensures.follows (λ acted follows. follows_ask k c.follow_leader.new.voter actions acted (follows s h f me now k.voter k.votes)))
