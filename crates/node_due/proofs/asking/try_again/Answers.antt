use Rattle.std.proofs.Common.{ap, sym}
use Rattle.voter_rules.specs.declared.config.RepairPolicy.{RepairPolicy}
use Rattle.node_requests.specs.NoneDue.{NoneToAskAgain}
use Rattle.simplex_member.specs.Packet.{formats}
use Rattle.node_due.proofs.Trying.{fetches_ask, if_ok_by, repairs, was_asked}
use Rattle.node_due.proofs.asking.try_again.Goals as goal

pub returns-clause-tried : goal.returns-clause-tried
returns-clause-tried g c = λ s h k.
    let f = formats {S = g.row.S.Denot} {P = g.row.S-PublicKey.Denot} g.D.PartialEq.eq g.D.Write.spelling g.S.Signature.Write.spelling g.S.Certificate.Write.spelling g.D.Read.reading g.S.Signature.Read.reading g.S.Certificate.Read.reading (g.S.Scheme.size s.voter.scheme) in
    was_asked k c.args.core.now.voter c.ask_again.new.tables c.silent_points_leave_votes.ensures.quiet c.a_ledger_at_rest_leaves_its_record.ensures
    (if_ok_by c.ask_again.result c.ask_again.ensures.acts (λ acted comes. fetches_ask k (NoneToAskAgain g.S.Scheme f s) c.ask_again.new.tables c.args.out.now.items c.ask_again.new.out.items acted (comes s h (repairs k) (ap (λ (p : RepairPolicy). p.again) (sym k.set_up.repair_is)))))
